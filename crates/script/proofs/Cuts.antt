-- A list is cut at its first element that passes.
use Rattle.std.proofs.Common.{◌≡◌, ℕ, ◌+◌, ◌-◌, ◌<◌, ◌≤◌, Bool, true, false, not, List, [], ◌∷◌, length, take, drop, Some, None, sym, refl, ap, cond, arith}
use Rattle.std.specs.List.{position, position_or_len, slice_split, onto_first}
use Rattle.std.proofs.lemmas.Bool.{ltb-true, ltb-false}
use Rattle.std.proofs.lemmas.List.{take_rest}
use Rattle.std.proofs.lemmas.List.Splits.{slice_split_first}
use Rattle.std.proofs.lemmas.Option.{cond_some, none-some}

pub cut : {X : Type 0} (p : X → Bool) (xs : List X) (d : X) (i : ℕ) → Some i ≡ position p xs → slice_split p xs ≡ take i xs ∷ slice_split p (take (length xs - (i + 1)) (drop (i + 1) xs))
cut p xs d i e =
    let k = cond_some _ _ i (sym e) in
    let h : position_or_len p xs < length xs = ltb-true _ _ k.0 in
    rw (take_rest, ← k.1) (slice_split_first p xs d h)

none_cond : (b : Bool) (n : ℕ) → cond b (Some n) None ≡ None → b ≡ false
none_cond true n e = absurd (none-some n (sym e))
none_cond false n e = refl

clear : {X : Type 0} (p : X → Bool) (xs : List X) → length xs ≤ position_or_len p xs → slice_split p xs ≡ xs ∷ []
clear p [] h = refl
clear p (x ∷ xs) h =
    let rest : position_or_len p (x ∷ xs) ≡ cond (not (p x)) (1 + position_or_len p xs) 0 = refl in
    elim (p x) as (λ b. length (x ∷ xs) ≤ cond (not b) (1 + position_or_len p xs) 0 → cond b ([] ∷ slice_split p xs) (onto_first x (slice_split p xs)) ≡ (x ∷ xs) ∷ []) [
      | true ↦ λ n. absurd (omega arith)
      | false ↦ λ n. ap (onto_first x) (clear p xs (omega arith))
    ] h

pub whole : {X : Type 0} (p : X → Bool) (xs : List X) → None ≡ position p xs → slice_split p xs ≡ xs ∷ []
whole p xs e = clear p xs (ltb-false _ _ (none_cond _ _ (sym e)))
