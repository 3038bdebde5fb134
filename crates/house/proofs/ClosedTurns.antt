-- A loop that closes the devices of a program: its turns, and what holds after them.
use Rattle.std.proofs.Common.{◌≡◌, ℕ, zero, suc, ◌+◌, ◌<◌, ◌≤◌, Bool, true, false, not, ◌&&◌, ◌||◌, T, eqb, List, [], ◌∷◌, sym, refl, ap, ◌∙◌, subst, ⊎_elim, add-one, arith}
use mathlib.Core.Path.{fun_ext}
use lib.Dec.{not_T}
use Rattle.std.proofs.Math.Bool.{and_comm}
use Rattle.std.proofs.lemmas.Bool.{cases_eq, ne_eqb, eq-eqb}
use Rattle.ledger.specs.View as ledger
use Rattle.ledger.specs.Uses.{owner_is}
use Rattle.house.specs.Event.{Event}
use Rattle.house.specs.Machine.{Hw}
use Rattle.house.specs.Meaning.{is_in, Now}
use Rattle.house.specs.Serving.{Progress, Holds}
use Rattle.house.specs.Closures.{closed_as, below, Closes, all_in, ClosedOne, ClosedSoFar}
use Rattle.house.proofs.Shelf.{is_false, left, right, in_here, in_cases}
use Rattle.house.proofs.Between.{holds_steps}
use Rattle.house.proofs.Draining.{holds_drain}
use Rattle.house.proofs.Cutting.{Unlent, cut_root}
use Rattle.house.proofs.ClosedViews.{closed_yes, closed_no, closed_none, closed_skip, below_none, below_self, below_next, below_other, below_skip, said_other, said_here}

-- those that said yes were asked
pub said_below : {owns : ℕ → Bool} {h : Hw} {es : List Event} {n : ℕ} {ys ns : List ℕ} {j : Hw} {gs : List Event} → Closes owns h es n ys ns j gs → (e : ℕ) → T (is_in e ys) → e < n
unfolding is_in
said_below Closes.none e t = absurd t
said_below (Closes.skip c o) e t = let l = said_below c e t in omega arith
said_below (Closes.gone {n = n} {ys = ys} c o s d) e t = ⊎_elim (λ (q : e ≡ n). omega arith) (λ (i : T (is_in e ys)). let l = said_below c e i in omega arith) (in_cases e n ys t)
said_below (Closes.stays c o s d) e t = let l = said_below c e t in omega arith

pub not_said : {owns : ℕ → Bool} {h : Hw} {es : List Event} {n : ℕ} {ys ns : List ℕ} {j : Hw} {gs : List Event} → Closes owns h es n ys ns j gs → T (not (is_in n ys))
not_said {n = n} {ys = ys} c = not_T (is_in n ys) (λ t. let l = said_below c n t in omega arith)

-- and all that belong to the program were asked
pub all_asked : {owns : ℕ → Bool} {h : Hw} {es : List Event} {n : ℕ} {ys ns : List ℕ} {j : Hw} {gs : List Event} → Closes owns h es n ys ns j gs → (e : ℕ) → e < n → owns e ≡ true → T (is_in e ys || is_in e ns)
all_asked Closes.none e l o = absurd (omega arith)
all_asked {owns = owns} (Closes.skip {n = n} c x) e l o =
    ⊎_elim (λ (q : e ≡ n). absurd (let z : ◌≡◌ {A = Bool} true false = sym o ∙ (ap owns q ∙ x) in let y : ◌≡◌ {A = ℕ} 0 1 = cc in omega arith)) (λ (d : e ≡ n → ⊥). all_asked c e (omega (arith, d)) o) (cases_eq e n)
all_asked (Closes.gone {n = n} {ys = ys} {ns = ns} c x s d) e l o =
    ⊎_elim (λ (q : e ≡ n). left (is_in e (n ∷ ys)) (is_in e ns) (subst (λ (z : ℕ). T (is_in z (n ∷ ys))) (sym q) (in_here n ys)))
    (λ (m : e ≡ n → ⊥). subst (λ (z : Bool). T (z || is_in e ns)) (sym (said_other n ys e m)) (all_asked c e (omega (arith, m)) o)) (cases_eq e n)
all_asked (Closes.stays {n = n} {ys = ys} {ns = ns} c x s d) e l o =
    ⊎_elim (λ (q : e ≡ n). right (is_in e ys) (is_in e (n ∷ ns)) (subst (λ (z : ℕ). T (is_in z (n ∷ ns))) (sym q) (in_here n ns)))
    (λ (m : e ≡ n → ⊥). subst (λ (z : Bool). T (is_in e ys || z)) (sym (said_other n ns e m)) (all_asked c e (omega (arith, m)) o)) (cases_eq e n)

-- one more yes makes no difference below it
all_in_other : (m n : ℕ) (owns : ℕ → Bool) (ys : List ℕ) → m ≤ n → all_in m owns ys ≡ all_in m owns (n ∷ ys)
unfolding all_in
all_in_other zero n owns ys l = refl
all_in_other (suc m) n owns ys l = rw (said_other n ys m (λ q. omega arith), all_in_other m n owns ys (omega arith))

-- the loop, turn by turn
pub closed_start : (owns : ℕ → Bool) (c : ℕ) (v : ledger.View) (h : Hw) (es : List Event) → ClosedSoFar owns c v h es 0 v true h es
unfolding all_in
closed_start owns c v h es =
    record { yeses = []; noes = []; asked = Closes.none; view = sym (closed_none (below 0 owns) (λ e. is_in e []) (below_none owns) c v); all_yes = refl; left = omega arith; frames = refl; devices = refl }

module _ {owns : ℕ → Bool} {c : ℕ} {v : ledger.View} {h : Hw} {es : List Event} {n : ℕ} {u : ledger.View} {all : Bool} {i : Hw} {fs : List Event} (a : ClosedSoFar owns c v h es n u all i fs) {u2 : ledger.View} {j : Hw} {gs : List Event} where
  turn : (o said : Bool) → ClosedOne o c n u i fs u2 said j gs → o ≡ owns n → ClosedSoFar owns c v h es (suc n) u2 (said && all) j gs
  unfolding all_in
  turn true true x e =
      record {
        yeses = n ∷ a.yeses;
        noes = a.noes;
        asked = Closes.gone a.asked (sym e) x.asked.2 x.asked.3;
        view = x.view ∙ ap (closed_as true c n) a.view ∙ closed_yes c n (below n owns) (λ y. is_in y a.yeses) (below (suc n) owns) (λ y. is_in y (n ∷ a.yeses)) (below_self owns n) (below_next owns n (sym e)) (below_other owns n) (said_other n a.yeses) (said_here n a.yeses) v;
        all_yes = a.all_yes ∙ (all_in_other n n owns a.yeses (omega arith) ∙ rw (← e, said_here n a.yeses));
        left = omega (arith, a.left, x.left);
        frames = x.frames ∙ a.frames;
        devices = x.devices ∙ a.devices;
      }
  turn true false x e =
      let still_not = is_false (is_in n a.yeses) (not_said a.asked) in
      record {
        yeses = a.yeses;
        noes = n ∷ a.noes;
        asked = Closes.stays a.asked (sym e) x.asked.2 x.asked.3;
        view = x.view ∙ ap (closed_as false c n) a.view ∙ closed_no c n (below n owns) (λ y. is_in y a.yeses) (below (suc n) owns) (λ y. is_in y a.yeses) (below_self owns n) (below_next owns n (sym e)) (below_other owns n) (λ y d. refl) still_not v;
        all_yes = rw (← e, still_not);
        left = omega (arith, a.left, x.left);
        frames = x.frames ∙ a.frames;
        devices = x.devices ∙ a.devices;
      }
  turn false said x e =
      record {
        yeses = a.yeses;
        noes = a.noes;
        asked = subst (λ (y : Hw). Closes owns h es (suc n) a.yeses a.noes y gs) (sym x.asked.1) (subst (λ (y : List Event). Closes owns h es (suc n) a.yeses a.noes i y) (sym x.asked.2) (Closes.skip a.asked (sym e)));
        view = x.view ∙ a.view ∙ closed_skip owns n (sym e) (λ y. is_in y a.yeses) c v;
        all_yes = rw (← e, x.asked.0) a.all_yes;
        left = omega (arith, a.left, x.left);
        frames = x.frames ∙ a.frames;
        devices = x.devices ∙ a.devices;
      }

  pub closed_turn : {o said : Bool} → ClosedOne o c n u i fs u2 said j gs → o ≡ owns n → ClosedSoFar owns c v h es (n + 1) u2 (all && said) j gs
  closed_turn {o} {said} x e = rw (add-one, and_comm all said) (turn o said x e)

-- how far a call has come after some of its devices
abbrev pub cut_so_far : (ℕ → Bool) → ℕ → (ℕ → ℕ → Bool) → List ℕ → List ℕ → Progress
cut_so_far owns n hid ys ns = record { cut = below n owns; hidden = hid; yeses = ys; noes = ns }

cut_as : {v : ledger.View} {hid : ℕ → ℕ → Bool} {ys ns : List ℕ} {n : Now} {h : Hw} {es : List Event} {x y : ℕ → Bool} → ((e : ℕ) → x e ≡ y e) → Holds v (record { cut = x; hidden = hid; yeses = ys; noes = ns }) n h es → Holds v (record { cut = y; hidden = hid; yeses = ys; noes = ns }) n h es
cut_as {v} {hid} {ys} {ns} {n} {h} {es} e a = subst (λ (z : ℕ → Bool). Holds v (record { cut = z; hidden = hid; yeses = ys; noes = ns }) n h es) (fun_ext e) a

cut_more : (owns : ℕ → Bool) (n : ℕ) → owns n ≡ true → (e : ℕ) → (eqb e n || below n owns e) ≡ below (suc n) owns e
cut_more owns n o e = ⊎_elim (λ (q : e ≡ n). rw (q, eq-eqb n n refl) (sym (below_next owns n o))) (λ (d : e ≡ n → ⊥). rw (ne_eqb e n d) (sym (below_other owns n e d))) (cases_eq e n)

pub closes_hold : {v : ledger.View} {hid : ℕ → ℕ → Bool} {now : Now} {owns : ℕ → Bool} {h : Hw} {es : List Event} {m : ℕ} {ys ns : List ℕ} {j : Hw} {gs : List Event} → ((d : ℕ) → owns d ≡ true → Unlent v d) →
    Holds v (record { cut = λ e. false; hidden = hid; yeses = []; noes = [] }) now h es → Closes owns h es m ys ns j gs → Holds v (cut_so_far owns m hid ys ns) now j gs
closes_hold {owns = owns} un a Closes.none = cut_as (λ e. sym (below_none owns e)) a
closes_hold {owns = owns} un a (Closes.skip {n = n} c o) = cut_as (below_skip owns n o) (closes_hold un a c)
closes_hold {owns = owns} un a (Closes.gone {n = n} c o s d) = holds_drain (holds_steps (cut_as (cut_more owns n o) (cut_root n (un n o) (not_said c) (closes_hold un a c))) s) d
closes_hold {owns = owns} un a (Closes.stays {n = n} c o s d) = holds_drain (holds_steps (cut_as (cut_more owns n o) (cut_root n (un n o) (not_said c) (closes_hold un a c))) s) d

-- the next device is as it was
pub turn_owner : {owns : ℕ → Bool} {c : ℕ} {v : ledger.View} {h : Hw} {es : List Event} {n : ℕ} {u : ledger.View} {all : Bool} {i : Hw} {fs : List Event} → ClosedSoFar owns c v h es n u all i fs → owner_is c (u.device n) ≡ owner_is c (v.device n)
turn_owner {owns} {c} {n = n} a = ap (λ (z : ledger.View). owner_is c (z.device n)) a.view ∙ rw (below_self owns n)
