-- What a call under way lets go leaves of what it waits for. Assumes nothing.
use Rattle.std.proofs.Common.{◌≡◌, ℕ, Bool, cond, not, T, leb, sym, refl, ap, ◌∙◌, subst}
use Rattle.house.specs.declared.Call.{Call}
use Rattle.house.specs.declared.Call.TheVariants.{Get, Free, Give, Open, Close, Regs, Lend, Recall, End}
use Rattle.house.specs.Meaning.{Loan, Home, Lent, Leaving, Use, Of, Dev, State, is_of, loan_of, is_home, has, frame_of, loan, why, leaving, set_use, use_at, loosens, any, first, device_of}
use Rattle.house.proofs.Shelf.{not_not, at_one, here, passes, is_true, any_same, first_same}
use Rattle.house.proofs.MeaningUses.{of_page, found}

-- the page that is recalled, and the devices of the program that is ended, are those of the asking
abbrev pub Alike : State → ℕ → Call → ℕ → ℕ → (ℕ → Use) → (ℕ → Dev) → Type 0
Alike t c (Get v) frames devices what dev = Unit {0}
Alike t c (Free v) frames devices what dev = Unit {0}
Alike t c (Give v to at) frames devices what dev = Unit {0}
Alike t c (Open d) frames devices what dev = Unit {0}
Alike t c (Close d) frames devices what dev = Unit {0}
Alike t c (Regs d v) frames devices what dev = Unit {0}
Alike t c (Lend v d p w) frames devices what dev = Unit {0}
Alike t c (Recall v) frames devices what dev =
    (any frames (λ (f : ℕ). is_of c v (what f)) ≡ has t c v) × (first frames (λ (f : ℕ). is_of c v (what f)) ≡ frame_of t c v) ×
    (device_of (loan_of (what (first frames (λ (f : ℕ). is_of c v (what f))))) ≡ device_of (loan t c v)) ×
    (is_home (loan_of (what (first frames (λ (f : ℕ). is_of c v (what f))))) ≡ is_home (loan t c v))
Alike t c (End w) frames devices what dev = (devices ≡ t.devices) × ((d : ℕ) → dev d ≡ t.dev d)

pub alike_self : (t : State) (c : ℕ) (k : Call) → Alike t c k t.frames t.devices t.what t.dev
alike_self t c (Get v) = tt
alike_self t c (Free v) = tt
alike_self t c (Give v to at) = tt
alike_self t c (Open d) = tt
alike_self t c (Close d) = tt
alike_self t c (Regs d v) = tt
alike_self t c (Lend v d p w) = tt
alike_self t c (Recall v) = (refl, refl, refl, refl)
alike_self t c (End w) = (refl, λ d. refl)

-- a page whose loan changes stays where it is
module _ (s : State) (c v : ℕ) (l : Loan) (h : T (has s c v)) where
  pub stays : (f : ℕ) → is_of c v (use_at (frame_of s c v) (Of c v l) s.what f) ≡ is_of c v (s.what f)
  stays f = at_one (λ (u : Use). is_of c v u ≡ is_of c v (s.what f)) f (frame_of s c v) (Of c v l) (s.what f)
      (λ e. is_true (is_of c v (Of c v l)) (of_page c v l) ∙ sym (is_true (is_of c v (s.what f)) (subst (λ (x : ℕ). T (is_of c v (s.what x))) (sym e) (found s c v h).1))) (λ _. refl)

  pub has_stays : has (set_use (use_at (frame_of s c v) (Of c v l) s.what) s) c v ≡ has s c v
  has_stays = any_same s.frames (λ (f : ℕ). is_of c v (use_at (frame_of s c v) (Of c v l) s.what f)) (λ (f : ℕ). is_of c v (s.what f)) stays

  pub frame_stays : frame_of (set_use (use_at (frame_of s c v) (Of c v l) s.what) s) c v ≡ frame_of s c v
  frame_stays = first_same s.frames (λ (f : ℕ). is_of c v (use_at (frame_of s c v) (Of c v l) s.what f)) (λ (f : ℕ). is_of c v (s.what f)) stays

  pub loan_stays : loan (set_use (use_at (frame_of s c v) (Of c v l) s.what) s) c v ≡ l
  unfolding loan_of
  loan_stays = ap (λ (f : ℕ). loan_of (use_at (frame_of s c v) (Of c v l) s.what f)) frame_stays ∙ ap loan_of (here (frame_of s c v) (Of c v l) (s.what (frame_of s c v)))

pub leaving_device : (l : Loan) → device_of (leaving l) ≡ device_of l
unfolding device_of leaving
leaving_device Home = refl
leaving_device (Lent d p w) = refl
leaving_device (Leaving d p w) = refl

pub leaving_home : (l : Loan) → is_home (leaving l) ≡ is_home l
unfolding is_home leaving
leaving_home Home = refl
leaving_home (Lent d p w) = refl
leaving_home (Leaving d p w) = refl

abbrev pub AlikeOf : State → ℕ → Call → State → Type 0
AlikeOf t c k s = Alike t c k s.frames s.devices s.what s.dev

pub alike_leaving : (t s : State) (c v : ℕ) → T (has s c v) → AlikeOf t c (Recall v) s → AlikeOf t c (Recall v) (set_use (use_at (frame_of s c v) (Of c v (leaving (loan s c v))) s.what) s)
alike_leaving t s c v h a =
    let l : Loan = leaving (loan s c v) in
    (has_stays s c v l h ∙ a.0, frame_stays s c v l h ∙ a.1, ap device_of (loan_stays s c v l h) ∙ leaving_device (loan s c v) ∙ a.2, ap is_home (loan_stays s c v l h) ∙ leaving_home (loan s c v) ∙ a.3)

-- what passes when a recall is not refused
pub recall_passes : (s : State) (c v : ℕ) → why s c (Recall v) ≡ 0 → T (has s c v) × T (not (is_home (loan s c v)))
unfolding why
recall_passes s c v e =
    let r = passes (not (has s c v)) 1 _ (passes (leb 1024 v) 0 _ e).1 in
    (not_not (has s c v) r.0, (passes (is_home (loan s c v)) 3 0 r.1).0)

pub alike_loosens : (t s : State) (c : ℕ) (k : Call) → why s c k ≡ 0 → AlikeOf t c k s → AlikeOf t c k (loosens s c k)
unfolding loosens
alike_loosens t s c (Get v) e a = a
alike_loosens t s c (Free v) e a = a
alike_loosens t s c (Give v to at) e a = a
alike_loosens t s c (Open d) e a = a
alike_loosens t s c (Close d) e a = a
alike_loosens t s c (Regs d v) e a = a
alike_loosens t s c (Lend v d p w) e a = a
alike_loosens t s c (Recall v) e a = alike_leaving t s c v (recall_passes s c v e).0 a
alike_loosens t s c (End w) e a = a

-- what a call let go already, it may still let go, and take effect
pub loosens_why : (s : State) (c : ℕ) (k : Call) → why s c k ≡ 0 → why (loosens s c k) c k ≡ 0
unfolding loosens why
loosens_why s c (Get v) e = e
loosens_why s c (Free v) e = e
loosens_why s c (Give v to at) e = e
loosens_why s c (Open d) e = e
loosens_why s c (Close d) e = e
loosens_why s c (Regs d v) e = e
loosens_why s c (Lend v d p w) e = e
loosens_why s c (Recall v) e =
    let h = recall_passes s c v e in
    let l : Loan = leaving (loan s c v) in
    let p : has (set_use (use_at (frame_of s c v) (Of c v l) s.what) s) c v ≡ has s c v = has_stays s c v l h.0 in
    let q : is_home (loan (set_use (use_at (frame_of s c v) (Of c v l) s.what) s) c v) ≡ is_home (loan s c v) = ap is_home (loan_stays s c v l h.0) ∙ leaving_home (loan s c v) in
    ap (λ (x : Bool). cond (leb 1024 v) 1 (cond (not x) 2 (cond (is_home (loan (set_use (use_at (frame_of s c v) (Of c v l) s.what) s) c v)) 4 0))) p ∙ ap (λ (x : Bool). cond (leb 1024 v) 1 (cond (not (has s c v)) 2 (cond x 4 0))) q ∙ e
loosens_why s c (End w) e = e

pub loosens_drains : (s : State) (c : ℕ) (k : Call) → ((loosens s c k).drained ≡ s.drained) × ((loosens s c k).undrained ≡ s.undrained)
unfolding loosens
loosens_drains s c (Get v) = (refl, refl)
loosens_drains s c (Free v) = (refl, refl)
loosens_drains s c (Give v to at) = (refl, refl)
loosens_drains s c (Open d) = (refl, refl)
loosens_drains s c (Close d) = (refl, refl)
loosens_drains s c (Regs d v) = (refl, refl)
loosens_drains s c (Lend v d p w) = (refl, refl)
loosens_drains s c (Recall v) = (refl, refl)
loosens_drains s c (End w) = (refl, refl)
