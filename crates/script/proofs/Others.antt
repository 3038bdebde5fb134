-- Words that differ from a text in length or in their first byte.
use Rattle.std.proofs.Common.{◌≡◌, ℕ, ◌≢◌, Bool, true, false, List, length, get_or, ap, refl}
use Rattle.std.specs.Str.{bytes_eq}
use Rattle.std.proofs.lemmas.Slice.Eq.{bytes_eq-Decides}

decided : (b : Bool) → (b ≡ true → ⊥) → b ≡ false
decided true h = absurd (h refl)
decided false h = refl

pub other_length : (w t : List ℕ) → length w ≢ length t → bytes_eq w t ≡ false
other_length w t h = decided (bytes_eq w t) (λ e. h (ap length ((bytes_eq-Decides w t).0 e)))

pub other_first : (w t : List ℕ) → get_or w 0 0 ≢ get_or t 0 0 → bytes_eq w t ≡ false
other_first w t h = decided (bytes_eq w t) (λ e. h (ap (λ s. get_or s 0 0) ((bytes_eq-Decides w t).0 e)))
