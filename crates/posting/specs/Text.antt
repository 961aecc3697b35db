-- Postings for a person to read, one to a line. Energy is in kWh, prices are in stotinki per MWh.
use Rattle.std.specs.Prelude.{ℕ, List, [], ◌∷◌, ◌++◌, ℤ, Some, None, Ok, Err, codes, decimal, Option, Result}
use Rattle.pricing.specs.declared.figures.Activation.{Activation}
use Rattle.pricing.specs.declared.figures.Activations.{Activations}
use Rattle.pricing.specs.declared.figures.SystemFigures.{SystemFigures}
use Rattle.refusal.specs.declared.refused.Refusal.{Refusal}
use Rattle.refusal.specs.Text.{refusal_text}
use Rattle.std.specs.Fmt.{signed_decimal}
use Rattle.posting.specs.declared.file.Placed.{Placed}
use Rattle.posting.specs.declared.posting.MemberEnergy.{MemberEnergy}
use Rattle.posting.specs.declared.posting.Opening.{Opening as OpeningFigures}
use Rattle.posting.specs.declared.posting.Posting.{Posting}
use Rattle.posting.specs.declared.posting.Posting.TheVariants.{Opening, Schedule, Reading, Price, Figures, Settle, Reopen}
use Rattle.posting.specs.File.{Contents, file_contents}

-- as in 'members 4 days 1 consumers 6 internal price 6000'
abbrev pub opening_text : OpeningFigures → List ℕ
opening_text o =
    codes "members " ++ (decimal o.members ++ (codes " days " ++ (decimal o.days
    ++ (codes " consumers " ++ (decimal o.consumers ++ (codes " internal price " ++ signed_decimal o.internal_price))))))

-- as in 'member 0 period 0 kwh 10000'
abbrev pub energy_text : MemberEnergy → List ℕ
energy_text e =
    codes "member " ++ (decimal e.member ++ (codes " period " ++ (decimal e.period ++ (codes " kwh " ++ decimal e.kwh))))

-- as in '60000 at 4000 and 20000 at -2000 and 0 at 0'
abbrev pub activation_text : Activation → List ℕ
activation_text a = decimal a.kwh ++ (codes " at " ++ signed_decimal a.price)

abbrev pub activations_text : Activations → List ℕ
activations_text a =
    activation_text a.automatic ++ (codes " and " ++ (activation_text a.manual ++ (codes " and " ++ activation_text a.replacement)))

abbrev pub bid_text : Option ℤ → List ℕ
bid_text None = codes "none"
bid_text (Some price) = signed_decimal price

abbrev pub figures_text : SystemFigures → List ℕ
figures_text f =
    codes "imbalance " ++ (signed_decimal f.imbalance_kwh ++ (codes " downward " ++ (activations_text f.downward
    ++ (codes " upward " ++ (activations_text f.upward ++ (codes " downward bid " ++ (bid_text f.downward_bid
    ++ (codes " upward bid " ++ (bid_text f.upward_bid ++ (codes " index " ++ signed_decimal f.index))))))))))

abbrev pub posting_text : Posting → List ℕ
posting_text (Opening o) = codes "opening " ++ opening_text o
posting_text (Schedule e) = codes "schedule " ++ energy_text e
posting_text (Reading e) = codes "reading " ++ energy_text e
posting_text (Price period price) = codes "price period " ++ (decimal period ++ (codes " price " ++ signed_decimal price))
posting_text (Figures period f) = codes "figures period " ++ (decimal period ++ (codes " " ++ figures_text f))
posting_text (Settle period) = codes "settle period " ++ decimal period
posting_text (Reopen period) = codes "reopen period " ++ decimal period

-- with the byte of the file at which the record stands, as in 'at 102 settle period 0'
abbrev pub placed_text : Placed → List ℕ
placed_text p = codes "at " ++ (decimal p.place ++ (codes " " ++ posting_text p.posting))

-- ---- a file

abbrev pub postings_text : List Placed → List ℕ → List ℕ
postings_text [] last = last
postings_text (p ∷ more) last = placed_text p ++ (codes "\n" ++ postings_text more last)

-- the refusal that ended the postings, if one did
abbrev pub last_text : Option Refusal → List ℕ
last_text None = []
last_text (Some refusal) = refusal_text refusal ++ codes "\n"

abbrev pub contents_text : Contents → List ℕ
contents_text c = postings_text c.postings (last_text c.refusal)

abbrev pub listing_text : List ℕ → List ℕ
listing_text file = contents_text (file_contents file)

-- one line of it
abbrev pub line_text : Result Placed Refusal → List ℕ
line_text (Ok p) = placed_text p ++ codes "\n"
line_text (Err refusal) = refusal_text refusal ++ codes "\n"
