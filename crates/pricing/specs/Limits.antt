-- Within what limits the figures of a quarter of an hour lie.
use Rattle.std.specs.Prelude.{ℕ, ◌*◌, Bool, true, ◌&&◌, ℤ, Some, None, Option, nat_le, unsigned_abs}
use Rattle.pricing.specs.declared.figures.Activation.{Activation}
use Rattle.pricing.specs.declared.figures.Activations.{Activations}
use Rattle.pricing.specs.declared.figures.SystemFigures.{SystemFigures}

-- kWh, with either sign
abbrev pub imbalance_limit : ℕ
imbalance_limit = 500000

-- kWh of one kind of reserve in one direction
abbrev pub activation_limit : ℕ
activation_limit = 1000000

-- stotinki per MWh, with either sign: the index, bids, and prices of activations, also those of 0 kWh
abbrev pub offer_limit : ℕ
offer_limit = 3000000

-- stotinki per MWh, with either sign: any price that the figures can give
abbrev pub price_limit : ℕ
price_limit = 30000000

-- the imbalance beyond which the base is scaled, in kWh
abbrev pub large_imbalance : ℕ
large_imbalance = 50000

-- the least margin on the index, in stotinki per MWh
abbrev pub least_margin : ℕ
least_margin = 1000

-- how fine the fractions are that these limits allow: the largest denominator of a base, and of any candidate
abbrev pub base_grain : ℕ
base_grain = 3 * activation_limit

abbrev pub candidate_grain : ℕ
candidate_grain = large_imbalance * base_grain

abbrev pub offer_in_range : ℤ → Bool
offer_in_range price = nat_le (unsigned_abs price) offer_limit

abbrev pub bid_in_range : Option ℤ → Bool
bid_in_range None = true
bid_in_range (Some price) = offer_in_range price

abbrev pub activation_in_range : Activation → Bool
activation_in_range a = nat_le a.kwh activation_limit && offer_in_range a.price

abbrev pub activations_in_range : Activations → Bool
activations_in_range a =
    activation_in_range a.automatic && (activation_in_range a.manual && activation_in_range a.replacement)

abbrev pub offers_in_range : SystemFigures → Bool
offers_in_range f = bid_in_range f.downward_bid && (bid_in_range f.upward_bid && offer_in_range f.index)

abbrev pub both_in_range : SystemFigures → Bool
both_in_range f = activations_in_range f.downward && activations_in_range f.upward

abbrev pub figures_in_range : SystemFigures → Bool
figures_in_range f = nat_le (unsigned_abs f.imbalance_kwh) imbalance_limit && (both_in_range f && offers_in_range f)
