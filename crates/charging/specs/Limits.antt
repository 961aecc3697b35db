-- Within what limits a member's figures lie.
use Rattle.std.specs.Prelude.{ℕ}

-- kWh that a schedule or a reading may say of one quarter of an hour
abbrev pub energy_limit : ℕ
energy_limit = 500000

-- stotinki per MWh, with either sign: the price at which a group nets inside
abbrev pub internal_price_limit : ℕ
internal_price_limit = 3000000
