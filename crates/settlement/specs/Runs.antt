-- Every way in which a run can go: it is opened over an empty book, and then calls are made in any order, accepted or refused.
use Rattle.std.specs.Prelude.{◌≡◌, ℕ, ℤ, is_ok, None, Ok}
use Rattle.energy.specs.Meaning.{Meaning}
use Rattle.ledger.specs.Answers.{Answer}
use Rattle.ledger.specs.Calls.{Opens, PostsSchedule, PostsReading, Prices, Settles, Reopens, Draws, Lists}
use Rattle.ledger.specs.Energies.{Sharing}
use Rattle.ledger.specs.Judgement.{Held}
use Rattle.ledger.specs.Marks.{published}
use Rattle.posting.specs.declared.posting.MemberEnergy.{MemberEnergy}
use Rattle.posting.specs.declared.posting.Opening.{Opening}
use Rattle.pricing.specs.declared.figures.SystemFigures.{SystemFigures}
use Rattle.pricing.specs.Prices.{price_of}
use Rattle.settlement.specs.Tally.{Tally, empty, fed, post_schedule, post_reading, post_price, post_figures, settle, reopen, draw_sheet}

abbrev pub EmptyBook : Meaning → Type 0
EmptyBook m = (line period : ℕ) → m.cell line period ≡ None

-- seals and ceilings of a book may change between calls; its size and its cells stay
pub record SameCells (before after : Meaning) : Type 0 where
  pub lines : after.lines ≡ before.lines
  pub periods : after.periods ≡ before.periods
  pub cells : (line period : ℕ) → after.cell line period ≡ before.cell line period

-- a run has come to this tally, this ledger and this book
pub data Run (o : Opening) (rule : Sharing) : Tally → Held → Meaning → Type 0 where
  opened : {lent L : Held} {m : Meaning} → Opens o (Ok tt) lent L → EmptyBook m → Run o rule empty L m
  scheduled : {t : Tally} {L : Held} {m n : Meaning} {r : Answer} (e : MemberEnergy) → Run o rule t L m → PostsSchedule o L e r m n → Run o rule (fed t (post_schedule e) (is_ok r)) L n
  metered : {t : Tally} {L : Held} {m n : Meaning} {r : Answer} (e : MemberEnergy) → Run o rule t L m → PostsReading o L e r m n → Run o rule (fed t (post_reading e) (is_ok r)) L n
  priced : {t : Tally} {L K : Held} {m : Meaning} {r : Answer} (p : ℕ) (v : ℤ) → Run o rule t L m → Prices o p (published v) r L K → Run o rule (fed t (post_price p v) (is_ok r)) K m
  figured : {t : Tally} {L K : Held} {m : Meaning} {r : Answer} (p : ℕ) (f : SystemFigures) → Run o rule t L m → Prices o p (price_of f) r L K → Run o rule (fed t (post_figures p f) (is_ok r)) K m
  settled : {t : Tally} {L K : Held} {m : Meaning} {r : Answer} (p : ℕ) → Run o rule t L m → Settles o rule m p r L K → Run o rule (fed t (settle p) (is_ok r)) K m
  reopened : {t : Tally} {L K : Held} {m : Meaning} {r : Answer} (p : ℕ) → Run o rule t L m → Reopens o rule m p r L K → Run o rule (fed t (reopen p) (is_ok r)) K m
  drawn : {t : Tally} {L : Held} {m : Meaning} {out out' : Lists} {r : Answer} (p : ℕ) → Run o rule t L m → Draws o rule L m p r out out' → Run o rule (fed t (draw_sheet p) (is_ok r)) L m
  changed : {t : Tally} {L : Held} {m n : Meaning} → Run o rule t L m → SameCells m n → Run o rule t L n
