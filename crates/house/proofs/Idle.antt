-- The keeper's own operations on an idle frame: nobody reaches it, so all holds as before.
use Rattle.std.proofs.Common.{◌≡◌, ℕ, suc, ◌<◌, not, T, List, sym, refl, ap, ◌∙◌, subst, ⊎_elim, arith, T_not}
use Rattle.std.proofs.lemmas.Bool.{cases_eq, eq-eqb, ne_eqb}
use Rattle.ledger.specs.declared.Use.TheVariants as used
use Rattle.ledger.specs.View as ledger
use Rattle.house.specs.Event.{Event}
use Rattle.house.specs.Machine.{Hw, Steps, counted, with_mem, put}
use Rattle.house.specs.Meaning.{Use, Idle, is_idle, is_home, loan_of, Now}
use Rattle.house.specs.Sound.{is_page}
use Rattle.house.specs.Sound as sound
use Rattle.house.specs.Kept.{use_meant}
use Rattle.house.specs.Operations.{Clears}
use Rattle.house.specs.Serving.{Progress, Holds}
use Rattle.house.proofs.Steps.{steps_keep}
use Rattle.house.proofs.Facts.{put_elsewhere}
use Rattle.house.proofs.Uses.{mem_keeps}
use Rattle.house.proofs.PageWords.{words_put}
use Rattle.house.proofs.Between.{holds_steps}

-- what the keeper has of an idle frame, in the words of the meaning
pub idle_meant : {v : ledger.View} {p : Progress} {n : Now} {h : Hw} {es : List Event} (a : Holds v p n h es) (f : ℕ) → v.used f ≡ used.Idle → a.state.what f ≡ Idle
unfolding use_meant
idle_meant a f e = a.kept.uses_are f ∙ ap use_meant e

-- memory that no device reaches stays through any steps
pub steps_quiet : {v : ledger.View} {p : Progress} {n : Now} {h j : Hw} {es gs : List Event} (a : Holds v p n h es) → Steps h es j gs → (f k : ℕ) → T (is_home (loan_of (a.state.what f))) → j.mem f k ≡ h.mem f k
steps_quiet a m f k t = ((steps_keep a.sound a.words a.shape a.run m).quiet f k t).0

idle_not_house : {v : ledger.View} {p : Progress} {n : Now} {h : Hw} {es : List Event} (a : Holds v p n h es) (f : ℕ) → v.used f ≡ used.Idle → 0 ≡ f → ⊥
idle_not_house a f e z =
    let i = idle_meant a f e in
    let h = a.sound.house in
    let w = ap a.state.what z in
    let q : ◌≡◌ {A = ℕ} 0 1 = cc in omega arith

-- a word is put into an idle frame
pub put_idle : {v : ledger.View} {p : Progress} {n : Now} {h : Hw} {es : List Event} (a : Holds v p n h es) (f k x : ℕ) → v.used f ≡ used.Idle → Holds v p n (counted (with_mem (put f k x h.mem) h)) es
unfolding is_idle is_page
put_idle {h = h} a f k x e =
    let i = idle_meant a f e in
    let other = λ (d : ℕ). put_elsewhere f k x h.mem 0 d (idle_not_house a f e) in
    record {
      fits = a.fits;
      state = a.state;
      run = a.run;
      shape = a.shape;
      drained_are = a.drained_are;
      undrained_are = a.undrained_are;
      kept = a.kept;
      sound = mem_keeps a.sound (put f k x h.mem) (λ g j t u. put_elsewhere f k x h.mem g j (λ z. T_not (is_idle (a.state.what g)) u (subst (λ (y : Use). T (is_idle y)) (sym (ap a.state.what z ∙ i)) tt)));
      words = words_put (sound.view_of a.state) a.words f k x (subst (λ (y : Use). T (not (is_page y))) (sym i) tt);
      live = a.live;
      shown = a.shown;
      roots = λ d c q. other d ∙ a.roots d c q;
      severed = λ d q. other d ∙ a.severed d q;
      forgot = a.forgot;
    }

idle_home : T (is_home (loan_of Idle))
unfolding is_home loan_of
idle_home = tt

cleared : (f n : ℕ) (m : ℕ → ℕ → ℕ) → ((k : ℕ) → k < n → m f k ≡ 0) → (k : ℕ) → k < suc n → put f n 0 m f k ≡ 0
cleared f n m z k lt = ⊎_elim (λ (e : k ≡ n). rw (eq-eqb k n e, eq-eqb f f refl)) (λ (d : k ≡ n → ⊥). rw (ne_eqb k n d, eq-eqb f f refl) (z k (omega arith))) (cases_eq k n)

-- an idle frame is made noughts
pub record Noughts (v : ledger.View) (p : Progress) (n : Now) (f m : ℕ) (j : Hw) (gs : List Event) : Type 0 where
  pub holds : Holds v p n j gs
  pub zeros : (k : ℕ) → k < m → j.mem f k ≡ 0

pub clears_idle : {v : ledger.View} {p : Progress} {n : Now} {f : ℕ} {h : Hw} {es : List Event} {m : ℕ} {j : Hw} {gs : List Event} → Holds v p n h es → v.used f ≡ used.Idle → Clears f h es m j gs → Noughts v p n f m j gs
clears_idle a e Clears.none = record { holds = a; zeros = λ k lt. omega arith }
clears_idle {f = f} a e (Clears.more {n = m} {i = i} c t) =
    let o = clears_idle a e c in
    let b = put_idle o.holds f m 0 e in
    record {
      holds = holds_steps b t;
      zeros = λ k lt. steps_quiet b t f k (subst (λ (y : Use). T (is_home (loan_of y))) (sym (idle_meant b f e)) idle_home) ∙ cleared f m i.mem o.zeros k lt;
    }
