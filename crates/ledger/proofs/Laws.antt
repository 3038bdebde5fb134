-- What holds of every room, and of every consistent one.
use Rattle.std.proofs.Common.{◌≡◌, ℕ, suc, ◌+◌, ◌-◌, ◌*◌, ◌/◌, ◌%◌, ◌<◌, false, ◌&&◌, eqb, ltb, List, length, get_or, sym, ap, ◌∙◌, subst, ⊎_elim, arith}
use Rattle.std.proofs.lemmas.Bool.{lt-ltb, le-ltb, ltb-true, cases_lt, cases_Bool, and_parts, cond_both}
use Rattle.ledger.specs.declared.Loan.{Loan}
use Rattle.ledger.specs.declared.Loan.TheVariants.{Home, Lent, Leaving}
use Rattle.ledger.specs.declared.Which.TheVariants.{Upper, Lower}
use Rattle.ledger.specs.declared.Use.TheVariants.{House, TableOf, Idle, PageOf}
use Rattle.ledger.specs.declared.Place.TheVariants.{Nothing, Page, Registers}
use Rattle.ledger.specs.declared.Device.TheVariants.{Shut, Opened, Closing}
use Rattle.ledger.specs.Words.{UseFits, LoanFits, WhichFits, DeviceFits, use_from, loan_from, which_from, device_from, is_set}
use Rattle.ledger.specs.Room.{use_of, place_of, tag_of, device_of, low_of}
use Rattle.ledger.specs.View.{View, view_of}
use Rattle.ledger.specs.Uses.{is_shut}
use Rattle.ledger.specs.Consistent.{LoanOk, FrameOk, PlaceOk, Coherent, Tagged, Consistent}
use Rattle.ledger.proofs.Moves.{is_page_of}

-- a frame of the room, in the view
pub used_at : (n : ℕ) (r : List ℕ) (f : ℕ) → f < n → (view_of n r).used f ≡ use_of r f
used_at n r f l = rw (lt-ltb f n l)

-- what is not idle in the view is a frame of the room
pub within : (n : ℕ) (r : List ℕ) (f : ℕ) → ((view_of n r).used f ≡ Idle → ⊥) → f < n
within n r f h = ⊎_elim (λ l. l) (λ l. absurd (h (rw (le-ltb f n l)))) (cases_lt f n)

-- what shows something is a place of a program
pub place_within : (r : List ℕ) (c v : ℕ) → (place_of r c v ≡ Nothing → ⊥) → (c < 32) × (v < 1024)
unfolding place_of
place_within r c v h =
    ⊎_elim (λ e. let b = and_parts (ltb c 32) (ltb v 1024) e in (ltb-true c 32 b.0, ltb-true v 1024 b.1)) (λ e. absurd (h (rw e))) (cases_Bool (ltb c 32 && ltb v 1024))

-- what is not shut is one of 32 devices
pub device_within : (r : List ℕ) (d : ℕ) → (device_of r d ≡ Shut → ⊥) → d < 32
unfolding device_of
device_within r d h = ⊎_elim (λ e. ltb-true d 32 e) (λ e. absurd (h (rw e))) (cases_Bool (ltb d 32))

-- the numbers that are read are in range
loan_fits : (h : ℕ) → LoanFits (loan_from h)
loan_fits h = cond_both (eqb h 0) Home _ LoanFits (λ _. tt) (λ _. cond_both _ (Leaving _) (Lent _) LoanFits (λ _. (omega arith, omega arith)) (λ _. (omega arith, omega arith)))

which_fits : (h : ℕ) → WhichFits (which_from h)
which_fits h = cond_both (eqb h 0) Upper (Lower ((h - 1) % 512)) WhichFits (λ _. tt) (λ _. omega arith)

words_fit : (low high : ℕ) → UseFits (use_from low high)
words_fit low high =
    cond_both (eqb (low % 4) 0) House _ UseFits (λ _. tt)
    (λ _. cond_both (eqb (low % 4) 1) (TableOf (low / 4 % 32) (which_from high)) _ UseFits (λ _. (omega arith, which_fits high))
    (λ _. cond_both (eqb (low % 4) 2) Idle (PageOf (low / 4096 % 32) (low / 4 % 1024) (loan_from high)) UseFits (λ _. tt) (λ _. (omega arith, omega arith, loan_fits high))))

pub use_fits : (r : List ℕ) (f : ℕ) → UseFits (use_of r f)
unfolding use_of
use_fits r f = words_fit (get_or r (65536 + 2 * f) 0) (get_or r (65536 + 2 * f + 1) 0)

pub device_fits : (r : List ℕ) (d : ℕ) → DeviceFits (device_of r d)
unfolding device_of
device_fits r d =
    cond_both (ltb d 32) (device_from x) Shut DeviceFits
    (λ _. cond_both (eqb x 0) Shut _ DeviceFits (λ _. tt) (λ _. cond_both (is_set ((x - 1) % 2)) (Closing ((x - 1) / 2 % 32)) (Opened ((x - 1) / 2 % 32)) DeviceFits (λ _. omega arith) (λ _. omega arith))) (λ _. tt)
  where
    x : ℕ
    x = get_or r (49152 + 2 * d) 0

-- a slot that has a lower table is one of 512 of one of 32 devices
pub low_within : (r : List ℕ) (d i : ℕ) → (low_of r d i ≡ 0 → ⊥) → (d < 32) × (i < 512)
unfolding low_of
low_within r d i h =
    ⊎_elim (λ e. let b = and_parts (ltb d 32) (ltb i 512) e in (ltb-true d 32 b.0, ltb-true i 512 b.1)) (λ e. absurd (h (rw e))) (cases_Bool (ltb d 32 && ltb i 512))

-- the same view, so consistent too
pub changed : (n : ℕ) (r t : List ℕ) (s : View) → Consistent n r → length t ≡ length r → view_of n t ≡ s → Coherent s → Tagged (tag_of t) s → Consistent n t
changed n r t s K l e h g = record { long = omega (arith, K.long); some = K.some; few = K.few; coherent = subst Coherent (sym e) h; tags = subst (Tagged (tag_of t)) (sym e) g }

module _ (s : View) (K : Coherent s) where
  -- a place gives its frame at once
  pub shown_page : (c v f : ℕ) → s.place c v ≡ Page f → (l : Loan) × (s.used f ≡ PageOf c v l)
  shown_page c v f e = is_page_of c v (s.used f) (subst (PlaceOk s.used s.device c v) e (K.places c v))

  pub page_shown : (c v f : ℕ) (l : Loan) → s.used f ≡ PageOf c v l → s.place c v ≡ Page f
  page_shown c v f l e = (subst (FrameOk s.place s.device s.top s.low f) e (K.frames f)).0

  pub page_loan : (c v f : ℕ) (l : Loan) → s.used f ≡ PageOf c v l → LoanOk s.device s.low c l
  page_loan c v f l e = (subst (FrameOk s.place s.device s.top s.low f) e (K.frames f)).1

  -- a table's frame is the one that its device has noted, and the other way round
  pub upper_noted : (d f : ℕ) → s.used f ≡ TableOf d Upper → (s.top d ≡ f) × (is_shut (s.device d) ≡ false)
  upper_noted d f e = subst (FrameOk s.place s.device s.top s.low f) e (K.frames f)

  pub lower_noted : (d i f : ℕ) → s.used f ≡ TableOf d (Lower i) → s.low d i ≡ suc f
  lower_noted d i f e = subst (FrameOk s.place s.device s.top s.low f) e (K.frames f)

  pub registers_opened : (c v d : ℕ) → s.place c v ≡ Registers d → s.device d ≡ Opened c
  registers_opened c v d e = subst (PlaceOk s.used s.device c v) e (K.places c v)

-- what the room says of a frame, by its view
pub use_there : (n : ℕ) (r : List ℕ) (s : View) → view_of n r ≡ s → (f : ℕ) → f < n → use_of r f ≡ s.used f
use_there n r s e f l = sym (used_at n r f l) ∙ ap (λ (v : View). v.used f) e

-- the frame of a place is a frame of the room, and its page's use says that place
pub page_at : (n : ℕ) (r : List ℕ) → Consistent n r → (c v f : ℕ) → place_of r c v ≡ Page f → (f < n) × ((l : Loan) × (use_of r f ≡ PageOf c v l))
page_at n r K c v f e =
    let h = shown_page (view_of n r) K.coherent c v f e in
    let l : f < n = within n r f (λ i. idle_page (sym i ∙ h.1)) in (l, (h.0, sym (used_at n r f l) ∙ h.1))
  where
    idle_page : {a b : ℕ} {l : Loan} → Idle ≡ PageOf a b l → ⊥
    idle_page e = let z : ◌≡◌ {A = ℕ} 0 1 = cc in omega arith
