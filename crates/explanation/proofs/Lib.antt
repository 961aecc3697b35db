pub mod MemberLines
pub mod IfAny
