-- What holds of every state of an explained row from the start on, and what each call leaves of it. Assumes nothing.
use Rattle.std.proofs.Common.{◌≡◌, ℕ, suc, ◌/◌, ◌<◌, Bool, true, false, cond, not, ◌&&◌, ◌||◌, T, eqb, ltb, leb, List, ◌∷◌, sym, ap, ◌∙◌, subst, ⊎_elim, arith, eqb→eq}
use Rattle.house.specs.declared.Call.{Call}
use Rattle.house.specs.declared.Call.TheVariants.{Get, Free, Give, Open, Close, Regs, Lend, Recall, End}
use Rattle.house.specs.Event.{Event}
use Rattle.house.specs.Machine.{Hw}
use Rattle.house.specs.Meaning
use Rattle.house.specs.Meaning.{Loan, Home, Lent, Use, House, TableOf, Idle, Of, Dev, Shut, Opened, State, is_of, loan_of, is_home, is_at, owner_is, open_by, is_shut, has, frame_of, loan, taken, foreign, used, why, leaving, closing, not_of, shut, shutting, shut_all, set_use, use_at, acts, loosens, any, is_in, device_of, all_drained, Out, Run, Now, told_drain}
use Rattle.house.specs.Promise.{start_of}
use Rattle.house.proofs.Shelf.{both, pair, neither, not_not, choose, at_one, passes, any_none, same_number}
use Rattle.house.proofs.MeaningUses.{of_same, found, found_is, one_owner, open_owns, shut_unowned, owned_not_shut, closing_owner, shut_is, Fewer, leaving_at, map_fewer, shut_fewer, shutting_fewer, not_of_fewer, Lawful, lawful_shut, lawful_shutting, lawful_leaving, lawful_map, lawful_let_go, lawful_not_of, lawful_opened, through_shut_all}

-- one place shows one thing, one page of a device is one page, loans are to whoever has the device, groups are one program's, and
-- registers are shown to whoever has the device open
pub record Good (frames devices : ℕ) (group : ℕ → ℕ) (what : ℕ → Use) (dev : ℕ → Dev) (regs : ℕ → ℕ → ℕ) : Type 0 where
  pub place : (c v f g : ℕ) → f < frames → g < frames → T (is_of c v (what f)) → T (is_of c v (what g)) → f ≡ g
  pub page : (d p f g : ℕ) → f < frames → g < frames → T (is_at d p (loan_of (what f))) → T (is_at d p (loan_of (what g))) → f ≡ g
  pub lawful : (f : ℕ) → Lawful (what f) dev
  pub groups : (d e c b : ℕ) → d < devices → e < devices → group d ≡ group e → T (owner_is c (dev d)) → T (owner_is b (dev e)) → c ≡ b
  pub shown : (c v d : ℕ) → regs c v ≡ suc d → T (open_by c (dev d))
  pub alone : (c v f d : ℕ) → f < frames → regs c v ≡ suc d → T (is_of c v (what f)) → ⊥

abbrev pub Fine : State → Type 0
Fine s = Good s.frames s.devices s.group s.what s.dev s.regs

module _ (n m : ℕ) (g : ℕ → ℕ) (what : ℕ → Use) (dev : ℕ → Dev) (regs : ℕ → ℕ → ℕ) (G : Good n m g what dev regs) where
  -- nothing new is anybody's, lent, or shown
  pub fewer : (what' : ℕ → Use) (dev' : ℕ → Dev) (regs' : ℕ → ℕ → ℕ) → ((f : ℕ) → Fewer (what f) (what' f)) → ((f : ℕ) → Lawful (what' f) dev') → ((d c : ℕ) → T (owner_is c (dev' d)) → T (owner_is c (dev d))) →
      ((c v d : ℕ) → regs' c v ≡ suc d → T (open_by c (dev' d)) × (regs c v ≡ suc d)) → Good n m g what' dev' regs'
  fewer what' dev' regs' less law own show =
      record {
        place = λ c v f h lf lh p q. G.place c v f h lf lh ((less f).owned c v p) ((less h).owned c v q);
        page = λ d k f h lf lh p q. G.page d k f h lf lh ((less f).lent d k p) ((less h).lent d k q);
        lawful = law;
        groups = λ d e c b ld le s p q. G.groups d e c b ld le s (own d c p) (own e b q);
        shown = λ c v d e. (show c v d e).0;
        alone = λ c v f d lf e p. G.alone c v f d lf (show c v d e).1 ((less f).owned c v p);
      }

  -- one frame is something else
  pub changed : (f : ℕ) (u : Use) → ((c v h : ℕ) → T (is_of c v u) → h < n → T (is_of c v (what h)) → h ≡ f) → ((d p h : ℕ) → T (is_at d p (loan_of u)) → h < n → T (is_at d p (loan_of (what h))) → h ≡ f) → Lawful u dev →
      ((c v d : ℕ) → T (is_of c v u) → regs c v ≡ suc d → ⊥) → Good n m g (use_at f u what) dev regs
  changed f u own at law show =
      record {
        place = λ c v i j li lj.
            at_one (λ (x : Use). T (is_of c v x) → T (is_of c v (use_at f u what j)) → i ≡ j) i f u (what i)
            (λ e p. at_one (λ (x : Use). T (is_of c v x) → i ≡ j) j f u (what j) (λ e' q. e ∙ sym e') (λ _ q. e ∙ sym (own c v j p lj q)))
            (λ d p. at_one (λ (x : Use). T (is_of c v x) → i ≡ j) j f u (what j) (λ e' q. own c v i q li p ∙ sym e') (λ _ q. G.place c v i j li lj p q));
        page = λ d k i j li lj.
            at_one (λ (x : Use). T (is_at d k (loan_of x)) → T (is_at d k (loan_of (use_at f u what j))) → i ≡ j) i f u (what i)
            (λ e p. at_one (λ (x : Use). T (is_at d k (loan_of x)) → i ≡ j) j f u (what j) (λ e' q. e ∙ sym e') (λ _ q. e ∙ sym (at d k j p lj q)))
            (λ _ p. at_one (λ (x : Use). T (is_at d k (loan_of x)) → i ≡ j) j f u (what j) (λ e' q. at d k i q li p ∙ sym e') (λ _ q. G.page d k i j li lj p q));
        lawful = λ i. at_one (λ (x : Use). Lawful x dev) i f u (what i) (λ _. law) (λ _. G.lawful i);
        groups = G.groups;
        shown = G.shown;
        alone = λ c v i d li e. at_one (λ (x : Use). T (is_of c v x) → ⊥) i f u (what i) (λ _ p. show c v d p e) (λ _ p. G.alone c v i d li e p);
      }

  -- a frame that is nobody's page from now on
  pub given_up : (f : ℕ) (u : Use) → ((c v : ℕ) → T (is_of c v u) → ⊥) → ((d p : ℕ) → T (is_at d p (loan_of u)) → ⊥) → Lawful u dev → Good n m g (use_at f u what) dev regs
  given_up f u own at law = changed f u (λ c v h t _ _. absurd (own c v t)) (λ d p h t _ _. absurd (at d p t)) law (λ c v d t _. own c v t)

  pub opened : (d c : ℕ) → T (is_shut (dev d)) → ((e b : ℕ) → e < m → g e ≡ g d → T (owner_is b (dev e)) → b ≡ c) → Good n m g what (λ e. cond (eqb e d) (Opened c) (dev e)) regs
  unfolding owner_is
  opened d c z one =
      record {
        place = G.place;
        page = G.page;
        lawful = λ f. lawful_opened d c dev z (what f) (G.lawful f);
        groups = λ i j a b li lj e.
            at_one (λ (x : Dev). T (owner_is a x) → T (owner_is b (cond (eqb j d) (Opened c) (dev j))) → a ≡ b) i d (Opened c) (dev i)
            (λ p s. at_one (λ (x : Dev). T (owner_is b x) → a ≡ b) j d (Opened c) (dev j) (λ _ t. eqb→eq a c s ∙ sym (eqb→eq b c t)) (λ _ t. eqb→eq a c s ∙ sym (one j b lj (sym e ∙ ap g p) t)))
            (λ _ s. at_one (λ (x : Dev). T (owner_is b x) → a ≡ b) j d (Opened c) (dev j) (λ p t. one i a li (e ∙ ap g p) s ∙ sym (eqb→eq b c t)) (λ _ t. G.groups i j a b li lj e s t));
        shown = λ a v e q.
            at_one (λ (x : Dev). T (open_by a x)) e d (Opened c) (dev e) (λ p. absurd (shut_unowned (dev d) a z (open_owns (dev d) a (subst (λ (x : ℕ). T (open_by a (dev x))) p (G.shown a v e q))))) (λ _. G.shown a v e q);
        alone = G.alone;
      }

  -- registers are shown where nothing was
  pub wired : (c v d : ℕ) → T (open_by c (dev d)) → ((f : ℕ) → f < n → T (is_of c v (what f)) → ⊥) → Good n m g what dev (λ w u. cond (eqb w c && eqb u v) (suc d) (regs w u))
  wired c v d own none =
      record {
        place = G.place;
        page = G.page;
        lawful = G.lawful;
        groups = G.groups;
        shown = λ a u e. choose (λ (x : ℕ). x ≡ suc e → T (open_by a (dev e))) (eqb a c && eqb u v) (suc d) (regs a u)
            (λ t q. subst (λ (x : ℕ). T (open_by x (dev e))) (sym (eqb→eq a c (both (eqb a c) (eqb u v) t).0)) (subst (λ (x : ℕ). T (open_by c (dev x))) (let r : d ≡ e = omega arith in r) own))
            (λ _ q. G.shown a u e q);
        alone = λ a u f e lf. choose (λ (x : ℕ). x ≡ suc e → T (is_of a u (what f)) → ⊥) (eqb a c && eqb u v) (suc d) (regs a u)
            (λ t q p. none f lf (let r : a ≡ c = eqb→eq a c (both (eqb a c) (eqb u v) t).0 in let k : u ≡ v = eqb→eq u v (both (eqb a c) (eqb u v) t).1 in subst (λ (x : ℕ). T (is_of x v (what f))) r (subst (λ (x : ℕ). T (is_of a x (what f))) k p)))
            (λ _ q p. G.alone a u f e lf q p);
      }

hidden : (r d e : ℕ) → cond (eqb r (suc d)) 0 r ≡ suc e → (r ≡ suc e) × (e ≡ d → ⊥)
hidden r d e = at_one (λ (x : ℕ). x ≡ suc e → (r ≡ suc e) × (e ≡ d → ⊥)) r (suc d) 0 r (λ _ q. absurd (omega arith)) (λ n q. (q, λ p. n (q ∙ ap suc p)))

pub fine_shut : (d : ℕ) (s : State) → Fine s → Fine (shut d s)
fine_shut d s G =
    fewer s.frames s.devices s.group s.what s.dev s.regs G _ _ _ (λ f. shut_fewer d (s.what f)) (λ f. lawful_shut d s.dev (s.what f) (G.lawful f))
    (λ e c. at_one (λ (x : Dev). T (owner_is c x) → T (owner_is c (s.dev e))) e d Shut (s.dev e) (λ _ t. absurd (shut_unowned Shut c shut_is t)) (λ _ t. t))
    (λ c v e q. let r = hidden (s.regs c v) d e q in (at_one (λ (x : Dev). T (open_by c x)) e d Shut (s.dev e) (λ p. absurd (r.1 p)) (λ _. G.shown c v e r.0), r.0))

pub fine_shutting : (d : ℕ) (s : State) → Fine s → Fine (shutting d s)
fine_shutting d s G =
    fewer s.frames s.devices s.group s.what s.dev s.regs G _ _ _ (λ f. shutting_fewer d (s.what f)) (λ f. lawful_shutting d s.dev (s.what f) (G.lawful f))
    (λ e c. choose (λ (x : Dev). T (owner_is c x) → T (owner_is c (s.dev e))) (eqb e d) (closing (s.dev e)) (s.dev e) (λ _ t. closing_owner (s.dev e) c t) (λ _ t. t))
    (λ c v e q. let r = hidden (s.regs c v) d e q in (at_one (λ (x : Dev). T (open_by c x)) e d (closing (s.dev e)) (s.dev e) (λ p. absurd (r.1 p)) (λ _. G.shown c v e r.0), r.0))

-- only uses change, and nothing new is anybody's or lent
pub fine_fewer : (s : State) (what : ℕ → Use) → Fine s → ((f : ℕ) → Fewer (s.what f) (what f)) → ((f : ℕ) → Lawful (what f) s.dev) → Fine (set_use what s)
fine_fewer s what G less law = fewer s.frames s.devices s.group s.what s.dev s.regs G what s.dev s.regs less law (λ _ _ t. t) (λ c v d e. (G.shown c v d e, e))

-- the frame of one's own page gets another loan, at the same place
pub fine_loan : (s : State) (c v : ℕ) (l : Loan) → Fine s → T (has s c v) → ((d p h : ℕ) → T (is_at d p l) → h < s.frames → T (is_at d p (loan_of (s.what h))) → h ≡ frame_of s c v) → Lawful (Of c v l) s.dev → Fine (set_use (use_at (frame_of s c v) (Of c v l) s.what) s)
unfolding loan_of
fine_loan s c v l G h at law =
    changed s.frames s.devices s.group s.what s.dev s.regs G (frame_of s c v) (Of c v l)
    (λ a u j t lj q. let e = of_same a u c v l t in G.place c v j (frame_of s c v) lj (found s c v h).0 (subst (λ (x : ℕ). T (is_of x v (s.what j))) e.0 (subst (λ (x : ℕ). T (is_of a x (s.what j))) e.1 q)) (found s c v h).1)
    at law
    (λ a u d t q. let e = of_same a u c v l t in G.alone a u (frame_of s c v) d (found s c v h).0 q (subst (λ (x : ℕ). T (is_of x u (s.what (frame_of s c v)))) (sym e.0) (subst (λ (x : ℕ). T (is_of c x (s.what (frame_of s c v)))) (sym e.1) (found s c v h).1)))

-- the loan of one's own page is lawful
own_lawful : (s : State) (c v : ℕ) → Fine s → T (has s c v) → Lawful (Of c v (loan s c v)) s.dev
own_lawful s c v G h = subst (λ (u : Use). Lawful u s.dev) (found_is s c v h) (G.lawful (frame_of s c v))

pub fine_let_go : (s : State) (c v : ℕ) → Fine s → T (has s c v) → Fine (set_use (use_at (frame_of s c v) (Of c v (leaving (loan s c v))) s.what) s)
fine_let_go s c v G h =
    fine_loan s c v (leaving (loan s c v)) G h (λ d p j t lj q. G.page d p j (frame_of s c v) lj (found s c v h).0 q (leaving_at (loan s c v) d p t)) (lawful_leaving c v (loan s c v) s.dev (own_lawful s c v G h))

table_at_no_page : (d : ℕ) (e p : ℕ) → T (is_at e p (loan_of (TableOf d))) → ⊥
unfolding is_at loan_of
table_at_no_page d e p t = t

-- where nothing of one's own is shown
not_taken : (s : State) (c v : ℕ) → T (not (taken s c v)) → ((f : ℕ) → f < s.frames → T (is_of c v (s.what f)) → ⊥) × ((d : ℕ) → s.regs c v ≡ suc d → ⊥)
not_taken s c v t =
    let r = neither (has s c v) (not (eqb (s.regs c v) 0)) t in
    (any_none s.frames (λ (f : ℕ). is_of c v (s.what f)) r.0, λ d e. let z : s.regs c v ≡ 0 = eqb→eq (s.regs c v) 0 (not_not (eqb (s.regs c v) 0) r.1) in omega arith)

-- a frame becomes a page where nothing was shown
fine_new : (s : State) (f c v : ℕ) → Fine s → T (not (taken s c v)) → Fine (set_use (use_at f (Of c v Home) s.what) s)
unfolding is_at loan_of
fine_new s f c v G t =
    let r = not_taken s c v t in
    changed s.frames s.devices s.group s.what s.dev s.regs G f (Of c v Home)
    (λ a u j k lj q. let e = of_same a u c v Home k in absurd (r.0 j lj (subst (λ (x : ℕ). T (is_of x v (s.what j))) e.0 (subst (λ (x : ℕ). T (is_of a x (s.what j))) e.1 q))))
    (λ d p j k lj q. absurd k) tt
    (λ a u d k q. let e = of_same a u c v Home k in r.1 d (sym (ap (λ (x : ℕ). s.regs c x) e.1) ∙ sym (ap (λ (x : ℕ). s.regs x u) e.0) ∙ q))

fine_table : (s : State) (f d : ℕ) → Fine s → Fine (set_use (use_at f (TableOf d) s.what) s)
unfolding is_of
fine_table s f d G = given_up s.frames s.devices s.group s.what s.dev s.regs G f (TableOf d) (λ c v t. t) (table_at_no_page d) tt

fine_idle : (s : State) (f : ℕ) → Fine s → Fine (set_use (use_at f Idle s.what) s)
unfolding is_of is_at loan_of
fine_idle s f G = given_up s.frames s.devices s.group s.what s.dev s.regs G f Idle (λ c v t. t) (λ d p t. t) tt

pub fine_shut_all : (n c : ℕ) (s : State) → Fine s → Fine (shut_all n c s)
fine_shut_all n c s G = through_shut_all Fine fine_shut fine_shutting n c s G

-- nobody else has a device of the group
nobody_else : (s : State) (c d : ℕ) → T (not (foreign s c d)) → (e b : ℕ) → e < s.devices → s.group e ≡ s.group d → T (owner_is b (s.dev e)) → b ≡ c
nobody_else s c d t e b le q p =
    let P : ℕ → Bool = λ (e : ℕ). eqb (s.group e) (s.group d) && not (is_shut (s.dev e)) && not (owner_is c (s.dev e)) in
    ⊎_elim (λ (o : T (owner_is c (s.dev e))). one_owner (s.dev e) b c p o)
    (λ (o : T (not (owner_is c (s.dev e)))). absurd (any_none s.devices P t e le (pair (eqb (s.group e) (s.group d) && not (is_shut (s.dev e))) (not (owner_is c (s.dev e))) (pair (eqb (s.group e) (s.group d)) (not (is_shut (s.dev e))) (same_number (s.group e) (s.group d) q) (owned_not_shut (s.dev e) b p)) o)))
    (Rattle.house.proofs.Shelf.decide (owner_is c (s.dev e)))

fine_lent : (s : State) (c v d p : ℕ) (w : Bool) → Fine s → T (has s c v) → T (not (used s d p)) → T (open_by c (s.dev d)) → Fine (set_use (use_at (frame_of s c v) (Of c v (Lent d p w)) s.what) s)
unfolding is_at
fine_lent s c v d p w G h free own =
    fine_loan s c v (Lent d p w) G h
    (λ a q j t lj z. let e1 : a ≡ d = eqb→eq a d (both (eqb a d) (eqb q p) t).0 in let e2 : q ≡ p = eqb→eq q p (both (eqb a d) (eqb q p) t).1 in
    absurd (any_none s.frames (λ (f : ℕ). is_at d p (loan_of (s.what f))) free j lj (subst (λ (x : ℕ). T (is_at x p (loan_of (s.what j)))) e1 (subst (λ (x : ℕ). T (is_at a x (loan_of (s.what j)))) e2 z))))
    own

fine_home : (s : State) (c v : ℕ) → Fine s → T (has s c v) → Fine (set_use (use_at (frame_of s c v) (Of c v Home) s.what) s)
unfolding is_at
fine_home s c v G h = fine_loan s c v Home G h (λ d p j t _ _. absurd t) tt

pub acts_fine : (k : Call) (f : ℕ) (s : State) (c : ℕ) → why s c k ≡ 0 → Fine s → Fine (acts f s c k).state
unfolding why acts
acts_fine (Get v) f s c e G = fine_new s f c v G (passes (taken s c v) 2 _ (passes (leb 1024 v) 0 _ e).1).0
acts_fine (Free v) f s c e G = fine_idle s (frame_of s c v) G
acts_fine (Give v to at) f s c e G =
    fine_new s (frame_of s c v) to at G (passes (taken s to at) 2 _ (passes (not (has s c v)) 1 _ (passes (leb 1024 v || leb 32 to || leb 1024 at) 0 _ e).1).1).0
acts_fine (Open d) f s c e G =
    let r = (passes (not (is_shut (s.dev d)) || foreign s c d) 5 _ (passes (not (eqb (s.driver d) c)) 4 _ (passes (leb s.devices d) 0 _ e).1).1).0 in
    let q = neither (not (is_shut (s.dev d))) (foreign s c d) r in
    opened s.frames s.devices s.group (use_at f (TableOf d) s.what) s.dev s.regs (fine_table s f d G) d c (not_not (is_shut (s.dev d)) q.0) (nobody_else s c d q.1)
acts_fine (Close d) f s c e G = choose (λ (o : Out). Fine o.state) (is_in d s.drained) _ _ (λ _. fine_shut d s G) (λ _. fine_shutting d s G)
acts_fine (Regs d v) f s c e G =
    let r = passes (taken s c v) 2 _ (passes (leb s.devices d || leb 1024 v) 0 _ e).1 in
    let o = not_not (open_by c (s.dev d)) (passes (not (open_by c (s.dev d))) 4 0 r.1).0 in
    wired s.frames s.devices s.group s.what s.dev s.regs G c v d o (not_taken s c v r.0).0
acts_fine (Lend v d p w) f s c e G =
    let r1 = (passes (leb 1024 v || leb s.devices d || leb 262144 p) 0 _ e).1 in
    let r2 = passes (not (has s c v)) 1 _ r1 in
    let r3 = passes (used s d p) 2 _ r2.1 in
    let r4 = passes (not (is_home (loan s c v))) 3 _ r3.1 in
    let r5 = passes (not (open_by c (s.dev d))) 4 _ r4.1 in
    let lends : Fine (set_use (use_at (frame_of s c v) (Of c v (Lent d p w)) s.what) s) = fine_lent s c v d p w G (not_not (has s c v) r2.0) r3.0 (not_not (open_by c (s.dev d)) r5.0) in
    choose (λ (o : Out). Fine o.state) (s.slots d (p / 512)) _ _ (λ _. lends) (λ _. fine_table (set_use (use_at (frame_of s c v) (Of c v (Lent d p w)) s.what) s) f d lends)
acts_fine (Recall v) f s c e G =
    let r1 = (passes (leb 1024 v) 0 _ e).1 in
    let h = not_not (has s c v) (passes (not (has s c v)) 1 _ r1).0 in
    choose (λ (o : Out). Fine o.state) (is_in (device_of (loan s c v)) s.drained) _ _
    (λ _. fine_home s c v G h) (λ _. fine_let_go s c v G h)
acts_fine (End w) f s c e G =
    let A : State = shut_all s.devices w s in
    let r : Fine A = fine_shut_all s.devices w s G in
    choose (λ (o : Out). Fine o.state) (all_drained s.devices w s) _ _ (λ _. fine_fewer A (λ g. not_of w (A.what g)) r (λ g. not_of_fewer w (A.what g)) (λ g. lawful_not_of w A.dev (A.what g) (r.lawful g))) (λ _. r)

pub loosens_fine : (k : Call) (s : State) (c : ℕ) → why s c k ≡ 0 → Fine s → Fine (loosens s c k)
unfolding why loosens
loosens_fine (Get v) s c e G = G
loosens_fine (Free v) s c e G = G
loosens_fine (Give v to at) s c e G = G
loosens_fine (Open d) s c e G = G
loosens_fine (Close d) s c e G = fine_fewer s _ G (λ f. shutting_fewer d (s.what f)) (λ f. lawful_let_go d s.dev (s.what f) (G.lawful f))
loosens_fine (Regs d v) s c e G = G
loosens_fine (Lend v d p w) s c e G = G
loosens_fine (Recall v) s c e G = fine_let_go s c v G (not_not (has s c v) (passes (not (has s c v)) 1 _ (passes (leb 1024 v) 0 _ e).1).0)
loosens_fine (End w) s c e G =
    let t : Loan → Bool = λ l. any s.devices (λ (d : ℕ). owner_is w (s.dev d) && eqb d (device_of l)) in
    fine_fewer s _ G (λ f. map_fewer (λ l. cond (t l) (leaving l) l) (λ l e p. choose (λ (x : Loan). T (is_at e p x) → T (is_at e p l)) (t l) (leaving l) l (λ _. leaving_at l e p) (λ _ q. q)) (s.what f))
    (λ f. lawful_map (λ l. cond (t l) (leaving l) l) s.dev (λ c v l h. choose (λ (x : Loan). Lawful (Of c v x) s.dev) (t l) (leaving l) l (λ _. lawful_leaving c v l s.dev h) (λ _. h)) (s.what f) (G.lawful f))

-- noting a drain changes nothing else
pub noted : (P : State → Type 0) (d : ℕ) (b : Bool) (s : State) → P (Rattle.house.specs.Meaning.set_drains (d ∷ s.drained) s.undrained s) → P (Rattle.house.specs.Meaning.set_drains s.drained (d ∷ s.undrained) s) → P (told_drain d b s)
noted P d true s p q = p
noted P d false s p q = q

module _ (can : Call → Bool) (start : State) (begins : Fine start) where
  pub fine : {es : List Event} {s : State} {n : Now} → Run can start es s n → Fine s
  fine Meaning.begin = begins
  fine (Meaning.asks c k r) = fine r
  fine (Meaning.loosened {s = s} {c = c} {k = k} r b w) = loosens_fine k s c w (fine r)
  fine (Meaning.acted {s = s} {c = c} {k = k} f r b w i x) = acts_fine k f s c w (fine r)
  fine (Meaning.refused r b w) = fine r
  fine (Meaning.not_built r b) = fine r
  fine (Meaning.tells r m) = fine r
  fine (Meaning.loads c v k r h) = fine r
  fine (Meaning.stores c v k x r h) = fine r
  fine (Meaning.pokes c v d r e) = fine r
  fine (Meaning.faults c v r t) = fine r
  fine (Meaning.took d p f k r l t) = fine r
  fine (Meaning.puts d p f k x r l t) = fine r
  fine (Meaning.misses d p w r t) = fine r
  fine (Meaning.drains {s = s} d b r) = noted Fine d b s (fine r) (fine r)

-- as the machine starts
pub fine_start : (h : Hw) → Fine (start_of h)
unfolding is_of is_at loan_of owner_is
fine_start h =
    record {
      place = λ c v f g _ _ p _. absurd (nobody c v f p);
      page = λ d p f g _ _ q _. absurd (nowhere d p f q);
      lawful = λ f. choose (λ (u : Use). Lawful u (λ e. Shut)) (ltb f 1) House Idle (λ _. tt) (λ _. tt);
      groups = λ d e c b _ _ _ p _. absurd p;
      shown = λ c v d e. absurd (omega arith);
      alone = λ c v f d _ e _. omega arith;
    }
  where
    nobody : (c v f : ℕ) → T (is_of c v (cond (ltb f 1) House Idle)) → ⊥
    nobody c v f = choose (λ (u : Use). T (is_of c v u) → ⊥) (ltb f 1) House Idle (λ _ t. t) (λ _ t. t)

    nowhere : (d p f : ℕ) → T (is_at d p (loan_of (cond (ltb f 1) House Idle))) → ⊥
    nowhere d p f = choose (λ (u : Use). T (is_at d p (loan_of u)) → ⊥) (ltb f 1) House Idle (λ _ t. t) (λ _ t. t)
