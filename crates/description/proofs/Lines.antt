-- The parts between line ends describe what the lines describe: a last part that is empty adds nothing.
use Rattle.std.proofs.Common.{◌≡◌, ℕ, ◌+◌, ◌<◌, Bool, false, List, [], ◌∷◌, ◌++◌, ◌⊎◌, length, get_or, drop, Some, None, Option, Result, refl, ap, ◌∙◌, inl, inr, sym, arith}
use Rattle.std.proofs.lemmas.Bool.{cases_Bool}
use Rattle.std.proofs.lemmas.List.{at_drop_more}
use Rattle.std.proofs.lemmas.List.FromFn.{length-enumerate_from, get_or-enumerate_from}
use Rattle.std.proofs.lemmas.Iterator.{YieldsList}
use Rattle.std.proofs.lemmas.Iterator.Consumers.{YieldsList-turn, YieldsList-end, YieldsList-from_enumerate, YieldsList-at}
use Rattle.std.proofs.lemmas.Iterator.Splits.{YieldsList-from_slice_split}
use Rattle.std.specs.Iterator.{Yields}
use Rattle.std.specs.Iterator.Adapters.{enumerate_source, enumerate_count, enumerate_steps}
use Rattle.std.specs.Slice.Iter.{split_rest, split_done, split_callee, split_steps}
use Rattle.std.specs.declared.iter.Enumerate.{Enumerate}
use Rattle.std.specs.declared.slice.Split.{Split}
use Rattle.std.specs.Fn.{CalledAt}
use denote.Param.Members.{Mut}
use denote.Ref.{Bor}
use Rattle.std.specs.List.{slice_split, onto_first, enumerate_from}
use Rattle.description.specs.declared.draft.Draft.{Draft}
use Rattle.description.specs.declared.draft.Quarter.{Quarter}
use Rattle.description.specs.declared.problem.Problem.{Problem}
use Rattle.description.specs.Words.{ends_line, lines_of}
use Rattle.description.specs.Entries.{and_then}
use Rattle.description.specs.Figures.{at_line, draft_after_line, quarter_after}

-- the parts are the lines, or the lines and an empty part
abbrev Parts : List (List ℕ) → List (List ℕ) → Type 0
Parts parts lines = (parts ≡ lines) ⊎ (parts ≡ lines ++ ([] ∷ []))

closed : (byte : ℕ) (parts lines : List (List ℕ)) → parts ≡ lines ++ ([] ∷ []) → Parts (onto_first byte parts) (onto_first byte lines)
closed byte parts [] e = inl (ap (onto_first byte) e)
closed byte parts (line ∷ more) e = inr (ap (onto_first byte) e)

goes_on : (byte : ℕ) (parts lines : List (List ℕ)) → Parts parts lines → Parts (onto_first byte parts) (onto_first byte lines)
goes_on byte parts lines (inl e) = inl (ap (onto_first byte) e)
goes_on byte parts lines (inr e) = closed byte parts lines e

ended : (parts lines : List (List ℕ)) → Parts parts lines → Parts ([] ∷ parts) ([] ∷ lines)
ended parts lines (inl e) = inl (ap (λ (xs : List (List ℕ)). [] ∷ xs) e)
ended parts lines (inr e) = inr (ap (λ (xs : List (List ℕ)). [] ∷ xs) e)

parts_of : (text : List ℕ) → Parts (slice_split ends_line text) (lines_of text)
parts_of [] = inr refl
parts_of (byte ∷ more) =
    elim (cases_Bool (ends_line byte)) [
      | inl ends ↦ rw ends (ended _ _ (parts_of more))
      | inr stays ↦ rw stays (goes_on byte _ _ (parts_of more))
    ]

empty_adds_nothing : (lines : List (List ℕ)) (number : ℕ) (draft : Draft) → quarter_after number draft (lines ++ ([] ∷ [])) ≡ quarter_after number draft lines
empty_adds_nothing [] number draft = refl
empty_adds_nothing (line ∷ more) number draft =
    λ i. and_then (at_line number (draft_after_line draft line)) (λ next. empty_adds_nothing more (number + 1) next i)

same : (parts lines : List (List ℕ)) → Parts parts lines → (number : ℕ) (draft : Draft) → quarter_after number draft parts ≡ quarter_after number draft lines
same parts lines (inl e) number draft = ap (quarter_after number draft) e
same parts lines (inr e) number draft = ap (quarter_after number draft) e ∙ empty_adds_nothing lines number draft

pub parts_describe : (text : List ℕ) (number : ℕ) (draft : Draft) → quarter_after number draft (slice_split ends_line text) ≡ quarter_after number draft (lines_of text)
parts_describe text number draft = same _ _ (parts_of text) number draft

-- ---- one part after the other, each with its number

abbrev Turn : List (List ℕ) → ℕ → ℕ × List ℕ → Type 0
Turn parts n item = (n < length (enumerate_from 0 parts)) × (item ≡ get_or (enumerate_from 0 parts) n item)

-- the numbered parts that splitting a text at its line ends gives
module _ {F : Type 0} (g : Mut F (Bor ℕ × Unit {0}) Bool) (text : List ℕ) (s : Enumerate (Split ℕ F)) where
  abbrev pub IsSplit : (e : Enumerate (Split ℕ F)) (p : Split ℕ F) (f : F) → Type 0
  IsSplit e p f =
      (s ≡ e) × (enumerate_source e ≡ p) × (enumerate_count e ≡ 0) × (split_rest p ≡ text) × (split_done p ≡ false) × (split_callee p ≡ f)
      × ((x : ℕ) (b : Bool) (q : F) → CalledAt g f x b q → (q ≡ f) × (b ≡ ends_line x))

  road : (e : Enumerate (Split ℕ F)) (p : Split ℕ F) (f : F) → IsSplit e p f → YieldsList (enumerate_steps (split_steps g)) (λ i. (i.0, i.1.now)) s (enumerate_from 0 (slice_split ends_line text))
  road e p f h =
      YieldsList-at h.0 (YieldsList-from_enumerate (YieldsList-at h.1 (YieldsList-from_slice_split g ends_line text h.3 h.4 h.5 h.6)) h.2)

  pub part_turn : (xs : List (ℕ × Bor (List ℕ))) (t : Enumerate (Split ℕ F)) → Yields (enumerate_steps (split_steps g)) s xs t → (r : Option (ℕ × Bor (List ℕ))) (u : Enumerate (Split ℕ F)) (x : ℕ × Bor (List ℕ)) → r ≡ Some x → enumerate_steps (split_steps g) t r u → (e : Enumerate (Split ℕ F)) (p : Split ℕ F) (f : F) → IsSplit e p f → Turn (slice_split ends_line text) (length xs) (x.0, x.1.now)
  part_turn xs t y r u x is step e p f h = YieldsList-turn (road e p f h) xs t y r u x is step

  pub parts_end : (xs : List (ℕ × Bor (List ℕ))) (t : Enumerate (Split ℕ F)) → Yields (enumerate_steps (split_steps g)) s xs t → (r : Option (ℕ × Bor (List ℕ))) (u : Enumerate (Split ℕ F)) → r ≡ None → enumerate_steps (split_steps g) t r u → (e : Enumerate (Split ℕ F)) (p : Split ℕ F) (f : F) → IsSplit e p f → length xs ≡ length (slice_split ends_line text)
  parts_end xs t y r u is step e p f h =
      (YieldsList-end (road e p f h) xs t y r u is step).1 ∙ length-enumerate_from 0 (slice_split ends_line text)

module _ (parts : List (List ℕ)) (n : ℕ) (draft : Draft) (index : ℕ) (line : List ℕ) (turn : Turn parts n (index, line)) where
  within : n < length parts
  within = simp length-enumerate_from at turn.0

  item_is : ◌≡◌ {A = ℕ × List ℕ} (index, line) (n, get_or parts n line)
  item_is =
      let zero : 0 + n ≡ n = omega arith in
      turn.1 ∙ get_or-enumerate_from 0 parts n (index, line) within ∙ ap (λ (m : ℕ). (m, get_or parts n line)) zero

  abbrev follow : Result Draft Problem → Result Quarter Problem
  follow r = and_then r (λ next. quarter_after (n + 1 + 1) next (drop (n + 1) parts))

  by_part : quarter_after (n + 1) draft (drop n parts) ≡ follow (at_line (index + 1) (draft_after_line draft line))
  by_part =
      at_drop_more (quarter_after (n + 1) draft) parts n line within
      ∙ sym (ap (λ (p : ℕ × List ℕ). follow (at_line (p.0 + 1) (draft_after_line draft p.1))) item_is)

  -- what is known once a part is entered, or its fault, describes what was left with it
  pub entered : (r : Result Draft Problem) (all : Result Quarter Problem) → r ≡ at_line (index + 1) (draft_after_line draft line) → quarter_after (n + 1) draft (drop n parts) ≡ all → follow r ≡ all
  entered r all is before = ap follow is ∙ sym by_part ∙ before
