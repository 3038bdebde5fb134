-- Words that are passed over since nothing stands there: what a sweep would have done at them is nothing.
use Rattle.std.proofs.Common.{◌≡◌, ℕ, zero, suc, ◌+◌, ◌*◌, ◌%◌, ◌<◌, ◌≤◌, ◌&&◌, cond, eqb, ltb, nat_le, ◌-◌, List, slice_index, sym, refl, ap, ◌∙◌, subst, arith}
use mathlib.Core.Path.{fun_ext}
use Rattle.std.proofs.lemmas.Bool.{cond_both, le-leb}
use Rattle.ledger.specs.declared.Place.TheVariants.{Nothing, Page, Registers}
use Rattle.ledger.specs.declared.room.Room.{Room}
use Rattle.ledger.specs.Room.{place_of, low_of}
use Rattle.ledger.specs.View.{view_of}
use Rattle.ledger.specs.Words.{place_from, number_from}
use Rattle.ledger.specs.Changes.{without_lower}
use Rattle.ledger.specs.Consistent.{Consistent}
use Rattle.ledger.specs.Rooms.{says, Becomes}
use Rattle.ledger.proofs.Becoming.{becomes_then}
use Rattle.ledger.proofs.Closed.{other_lower, lower_frame, lowers_below, lowers_more}
use Rattle.ledger.proofs.Entries.{same_view}
use Rattle.ledger.proofs.Moves.{at2}

-- what holds at v, and then one further each time, holds n further
pub passed : (P : ℕ → Type 0) (v n : ℕ) → ((k : ℕ) → k < n → P (v + k) → P (v + k + 1)) → P v → P (v + n)
passed P v zero step p = let e : v ≡ v + 0 = omega arith in subst P e p
passed P v (suc n) step p = let e : v + n + 1 ≡ v + suc n = omega arith in subst P e (step n (omega arith) (passed P v n (λ k l. step k (omega arith)) p))

pub lower_passed : (n : ℕ) (r : List ℕ) → Consistent n r → (d i : ℕ) → low_of r d i ≡ 0 → view_of n r ≡ without_lower d i (view_of n r)
lower_passed n r K d i z =
    same_view (view_of n r) (without_lower d i (view_of n r)) (fun_ext (λ g. other_lower d i ((view_of n r).used g) (λ q. let stands = lower_frame n r d i K g q in omega (arith, stands, z)))) refl refl refl
    (fun_ext (λ a. fun_ext (λ b. at2 (λ x. low_of r a b ≡ x) a d b i 0 (low_of r a b) (λ p q. ap (λ (x : ℕ). low_of r x b) p ∙ ap (low_of r d) q ∙ z) (λ _. refl))))

-- 64 slots of d, from i on, in a room that has become what it is by the sweep below i
pub lowers_passed : (a b : Room) (d i : ℕ) → ((k : ℕ) → k < 64 → low_of b.words.now d (i + k) ≡ 0) → Becomes a (lowers_below d i (says a)) b → Becomes a (lowers_below d (i + 64) (says a)) b
lowers_passed a b d i none h =
    passed (λ k. Becomes a (lowers_below d k (says a)) b) i 64
    (λ k l s. becomes_then a b b (lowers_below d (i + k) (says a)) (lowers_below d (i + k + 1) (says a)) (without_lower d (i + k)) s (refl, refl, lower_passed b.frames b.words.now b.consistent d (i + k) (none k l), refl)
    (lowers_more d (i + k) (says a) (lowers_below d (i + k) (says a)) _ refl refl)) h

-- where 64 words are noughts in their lower bits, none of these slots has a table
pub no_lowers_there : (r : List ℕ) (d i at : ℕ) (seen : ℕ) → at ≡ 32768 + d * 512 + i → ((k : ℕ) → k < 64 → slice_index r (at + k) % 131072 ≤ seen) → seen ≤ 0 → (k : ℕ) → k < 64 → low_of r d (i + k) ≡ 0
unfolding low_of
no_lowers_there r d i at seen e has none k l =
    cond_both (ltb d 32 && ltb (i + k) 512) (number_from (slice_index r (32768 + d * 512 + (i + k)))) 0 (λ x. x ≡ 0)
    (λ _. let there : at + k ≡ 32768 + d * 512 + (i + k) = omega arith in
    let most = has k l in
    ap (λ (x : ℕ). slice_index r x % 131072) (sym there) ∙ omega arith) (λ _. refl)

-- where no one of 64 words shows more than nothing, nothing is shown; where none shows more than a page, no registers are
pub nothing_shown : (r : List ℕ) (c v at : ℕ) (seen : ℕ) → at ≡ c * 1024 + v → ((k : ℕ) → k < 64 → slice_index r (at + k) % 131072 ≤ seen) → seen ≤ 0 → (k : ℕ) → k < 64 → place_of r c (v + k) ≡ Nothing
unfolding place_of
nothing_shown r c v at seen e has none k l =
    cond_both (ltb c 32 && ltb (v + k) 1024) (place_from (slice_index r (c * 1024 + (v + k)) % 131072)) Nothing (λ x. x ≡ Nothing)
    (λ _. let there : at + k ≡ c * 1024 + (v + k) = omega arith in
    let most = has k l in
    let nought : slice_index r (at + k) % 131072 ≡ 0 = omega arith in
    ap (λ (x : ℕ). place_from (slice_index r x % 131072)) (sym there) ∙ ap place_from nought) (λ _. refl)

page_at_most : (x d : ℕ) → x ≤ 65536 → place_from x ≡ Registers d → ⊥
page_at_most x d l = cond_both (eqb x 0) Nothing (cond (nat_le x 65536) (Page (x - 1)) (Registers ((x - 65537) % 32))) (λ p. p ≡ Registers d → ⊥) (λ _. nothing) (λ _. rw (le-leb x 65536 l) page)
  where
    nothing : Nothing ≡ Registers d → ⊥
    nothing z = let y : ◌≡◌ {A = ℕ} 0 1 = cc in omega arith

    page : Page (x - 1) ≡ Registers d → ⊥
    page z = let y : ◌≡◌ {A = ℕ} 0 1 = cc in omega arith

pub no_registers_shown : (r : List ℕ) (c v at : ℕ) (seen : ℕ) → at ≡ c * 1024 + v → ((k : ℕ) → k < 64 → slice_index r (at + k) % 131072 ≤ seen) → seen < 65536 → (d k : ℕ) → k < 64 → place_of r c (v + k) ≡ Registers d → ⊥
unfolding place_of
no_registers_shown r c v at seen e has none d k l =
    cond_both (ltb c 32 && ltb (v + k) 1024) (place_from (slice_index r (c * 1024 + (v + k)) % 131072)) Nothing (λ x. x ≡ Registers d → ⊥)
    (λ _. let there : at + k ≡ c * 1024 + (v + k) = omega arith in
    let most = has k l in
    let few : slice_index r (at + k) % 131072 ≤ 65536 = omega arith in
    page_at_most (slice_index r (c * 1024 + (v + k)) % 131072) d (subst (λ (x : ℕ). slice_index r x % 131072 ≤ 65536) there few)) (λ _ z. let y : ◌≡◌ {A = ℕ} 0 1 = cc in omega arith)
