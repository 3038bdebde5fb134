-- Places that a sweep over a device's loans passes over, since their tags are of no page that is lent to it.
use Rattle.std.proofs.Common.{◌≡◌, ℕ, ◌+◌, ◌*◌, ◌/◌, ◌<◌, Bool, true, false, eqb, List, slice_index, sym, refl, ap, ◌∙◌, arith}
use mathlib.Core.Path.{fun_ext}
use Rattle.std.proofs.lemmas.Bool.{eqb-true, lt-ltb, false≢true}
use Rattle.ledger.specs.declared.Loan.{Loan}
use Rattle.ledger.specs.declared.Loan.TheVariants.{Home, Lent, Leaving}
use Rattle.ledger.specs.declared.Use.{Use}
use Rattle.ledger.specs.declared.Use.TheVariants.{House, TableOf, Idle, PageOf}
use Rattle.ledger.specs.declared.Place.TheVariants.{Nothing, Page}
use Rattle.ledger.specs.declared.Device.{Device}
use Rattle.ledger.specs.declared.room.Room.{Room}
use Rattle.ledger.specs.Words.{tag_device, tag_for}
use Rattle.ledger.specs.Room.{place_of, tag_of}
use Rattle.ledger.specs.Uses.{is_with, loan_in, loan_shown, swept_loan, on_page}
use Rattle.ledger.specs.Changes.{with_uses}
use Rattle.ledger.specs.Consistent.{LoanOk}
use Rattle.ledger.specs.Rooms.{says, Becomes}
use Rattle.ledger.proofs.Becoming.{becomes_then}
use Rattle.ledger.proofs.Entries.{same_view}
use Rattle.ledger.proofs.Laws.{place_within, page_shown, page_loan}
use Rattle.ledger.proofs.Moves.{at2}
use Rattle.ledger.proofs.Passed.{passed}
use Rattle.ledger.proofs.Swept.{below, swept_more}

-- no tag of d
abbrev pub Without : ℕ → ℕ → Type 0
Without d w = tag_device w ≡ d + 1 → ⊥

lent_word : (w d p : ℕ) → w / 131072 ≡ 1 + p + 262144 * d → p < 262144 → Without d w → ⊥
lent_word w d p e l without = without (omega (arith, e, l))

-- a loan to another device is left as it is
left : (h : Bool) (d : ℕ) (l : Loan) → is_with d l ≡ false → l ≡ swept_loan h d l
left true d Home e = refl
left true d (Lent m) e = rw e refl
left true d (Leaving m) e = rw e refl
left false d Home e = refl
left false d (Lent m) e = rw e refl
left false d (Leaving m) e = refl

other : (d w : ℕ) (l : Loan) (c : ℕ) (dev : ℕ → Device) (low : ℕ → ℕ → ℕ) → LoanOk dev low c l → w / 131072 ≡ tag_for l → Without d w → is_with d l ≡ false
other d w Home c dev low k e without = refl
other d w (Lent m) c dev low k e without = cases (eqb d m.device) refl
  where
    cases : (b : Bool) → eqb d m.device ≡ b → b ≡ false
    cases false q = refl
    cases true q = absurd (lent_word w d m.page (e ∙ ap (λ (x : ℕ). 1 + m.page + 262144 * x) (sym (eqb-true d m.device q))) k.1 without)
other d w (Leaving m) c dev low k e without = cases (eqb d m.device) refl
  where
    cases : (b : Bool) → eqb d m.device ≡ b → b ≡ false
    cases false q = refl
    cases true q = absurd (lent_word w d m.page (e ∙ ap (λ (x : ℕ). 1 + m.page + 262144 * x) (sym (eqb-true d m.device q))) k.1 without)

nothing_page : {g : ℕ} → Nothing ≡ Page g → ⊥
nothing_page z = let y : ◌≡◌ {A = ℕ} 0 1 = cc in omega arith

-- the tag of a place that shows a page
pub tag_there : (r : List ℕ) (c v : ℕ) → c < 32 → v < 1024 → tag_of r c v ≡ slice_index r (c * 1024 + v) / 131072
unfolding tag_of
tag_there r c v a b = rw (lt-ltb c 32 a, lt-ltb v 1024 b) refl

module _ (r : Room) (c v d : ℕ) (h : Bool) (without : Without d (slice_index r.words.now (c * 1024 + v))) where
  page_left : (g : ℕ) (u : Use) → (says r).used g ≡ u → u ≡ on_page c v (swept_loan h d) u
  page_left g House e = refl
  page_left g (TableOf b w) e = refl
  page_left g Idle e = refl
  page_left g (PageOf a b l) e =
      at2 (λ z. PageOf a b l ≡ z) a c b v (PageOf a b (swept_loan h d l)) (PageOf a b l)
      (λ p q.
      let K = r.consistent.coherent in
      let shown : place_of r.words.now c v ≡ Page g = sym (ap (λ (x : ℕ). place_of r.words.now x b) p ∙ ap (place_of r.words.now c) q) ∙ page_shown (says r) K a b g l e in
      let w = place_within r.words.now c v (λ z. nothing_page (sym z ∙ shown)) in
      let tagged : tag_of r.words.now c v ≡ tag_for l = r.consistent.tags c v ∙ ap (λ x. tag_for (loan_shown (says r).used x)) shown ∙ ap (λ (x : Use). tag_for (loan_in x)) e in
      ap (PageOf a b) (left h d l (other d (slice_index r.words.now (c * 1024 + v)) l a (says r).device (says r).low (page_loan (says r) K a b g l e) (sym (tag_there r.words.now c v w.0 w.1) ∙ tagged) without)))
      (λ _. refl)

  pub loan_still : says r ≡ with_uses (on_page c v (swept_loan h d)) (says r)
  loan_still = same_view (says r) (with_uses (on_page c v (swept_loan h d)) (says r)) (fun_ext (λ g. page_left g ((says r).used g) refl)) refl refl refl refl

-- 64 places, from v on, in a room that has become what it is by the sweep below v
pub loans_passed : (a b : Room) (c d v : ℕ) (h : Bool) → ((k : ℕ) → k < 64 → Without d (slice_index b.words.now (c * 1024 + (v + k)))) → Becomes a (with_uses (below c v (swept_loan h d)) (says a)) b →
    Becomes a (with_uses (below c (v + 64) (swept_loan h d)) (says a)) b
loans_passed a b c d v h without s =
    passed (λ k. Becomes a (with_uses (below c k (swept_loan h d)) (says a)) b) v 64
    (λ k l t. becomes_then a b b (with_uses (below c (v + k) (swept_loan h d)) (says a)) (with_uses (below c (v + k + 1) (swept_loan h d)) (says a)) (with_uses (on_page c (v + k) (swept_loan h d))) t (refl, refl, loan_still b c (v + k) d h (without k l), refl)
    (swept_more c (v + k) (swept_loan h d) (says a) (with_uses (below c (v + k) (swept_loan h d)) (says a)) _ refl refl)) s

-- where no one of 64 words has a tag of d, nothing that these places show is lent to it
pub without_there : (ws r : List ℕ) (who d first at : ℕ) (some : Bool) → ws ≡ r → at ≡ who * 1024 + first → ((k : ℕ) × (k < 64) × (tag_device (slice_index ws (at + k)) ≡ d + 1) → some ≡ true) → some ≡ false → (k : ℕ) → k < 64 → Without d (slice_index r (who * 1024 + (first + k)))
without_there ws r who d first at some e f has none k l t =
    let there : who * 1024 + (first + k) ≡ at + k = omega (arith, f) in
    let word : slice_index r (who * 1024 + (first + k)) ≡ slice_index ws (at + k) = ap (λ (us : List ℕ). slice_index us (who * 1024 + (first + k))) (sym e) ∙ ap (slice_index ws) there in
    false≢true (sym none ∙ has (k, l, ap tag_device (sym word) ∙ t))
