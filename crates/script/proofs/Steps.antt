-- Words against the parts of a line, from the left.
use Rattle.std.proofs.Common.{◌≡◌, ℕ, Bool, true, false, List, [], ◌∷◌, Some, refl, ap}
use Rattle.script.specs.Decimal.{index_of, exact_of}
use Rattle.script.specs.Language.{Part, text, index, exact, Written, access}
use Rattle.script.specs.Parser.{mode_of}
use Rattle.script.specs.Parts.{first, later, alone, last_of}

pub index_step : (n : ℕ) (ps : List Part) (ws : List (List ℕ)) → Written (index n ∷ ps) ws → (first index_of ws ≡ Some n) × Written ps (later ws)
index_step n ps [] h = absurd h
index_step n ps (w ∷ ws) h = h

pub text_step : (t : List ℕ) (ps : List Part) (ws : List (List ℕ)) → Written (text t ∷ ps) ws → (ws ≡ t ∷ later ws) × Written ps (later ws)
text_step t ps [] h = absurd h
text_step t ps (w ∷ ws) h = (ap (λ (v : List ℕ). v ∷ ws) h.0, h.1)

pub index_last : (n : ℕ) (ws : List (List ℕ)) → Written (index n ∷ []) ws → last_of index_of ws ≡ Some n
index_last n [] h = absurd h
index_last n (w ∷ []) h = simp h.0
index_last n (w ∷ v ∷ ws) h = absurd h.1

pub exact_last : (n : ℕ) (ws : List (List ℕ)) → Written (exact n ∷ []) ws → last_of exact_of ws ≡ Some n
exact_last n [] h = absurd h
exact_last n (w ∷ []) h = simp h.0
exact_last n (w ∷ v ∷ ws) h = absurd h.1

mode_access : (m : Bool) → mode_of (access m) ≡ Some m
mode_access true = refl
mode_access false = refl

pub mode_last : (m : Bool) (ws : List (List ℕ)) → Written (text (access m) ∷ []) ws → last_of mode_of ws ≡ Some m
mode_last m [] h = absurd h
mode_last m (w ∷ []) h = simp (h.0, mode_access m)
mode_last m (w ∷ v ∷ ws) h = absurd h.1

pub none_left : {A : Type 0} (a : A) (ws : List (List ℕ)) → Written [] ws → alone a ws ≡ Some a
none_left a [] h = refl
none_left a (w ∷ ws) h = absurd h
