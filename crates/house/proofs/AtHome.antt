-- A page that is home is its owner's. Assumes nothing.
use Rattle.std.proofs.Common.{◌≡◌, ℕ, ◌/◌, ◌<◌, Bool, true, false, cond, not, ◌&&◌, ◌||◌, T, eqb, ltb, leb, ◌⊎◌, List, [], ◌∷◌, sym, refl, ap, ◌∙◌, subst, inl, inr, eqb→eq, T_not}
use Rattle.house.specs.declared.Call.{Call}
use Rattle.house.specs.declared.Call.TheVariants.{Get, Free, Give, Open, Close, Regs, Lend, Recall, End}
use Rattle.house.specs.declared.Answer.{Answer}
use Rattle.house.specs.declared.Answer.TheVariants.{Done, No}
use Rattle.house.specs.Event.{Event, Asked, Told, Loaded, Stored, Faulted, Poked, TookFrom, PutInto, Missed, Drained}
use Rattle.house.specs.Meaning
use Rattle.house.specs.Meaning.{Loan, Home, Lent, Use, TableOf, Idle, Of, State, is_of, is_idle, loan_of, is_home, reaches, has, frame_of, loan, idle, why, leaving, home_from, leaving_from, map_loan, no_table, not_of, shut_all, set_word, set_drains, use_at, acts, takes_frame, loosens, is_in, device_of, all_drained, Out, Run, Now, Quiet, Under, Over, told_drain}
use Rattle.house.specs.Words.{is_page, moves, rests, stored_by, HomeIsItsOwners, HomeStays}
use Rattle.house.proofs.Shelf.{both, pair, not_not, choose, there, passes, same_number, taken_two}
use Rattle.house.proofs.MeaningUses.{of_same, found, through_shut_all}
use Rattle.house.proofs.Good.{Fine, fine, fine_start, noted}
use Rattle.house.proofs.Stays.{recall_passes}
use Rattle.house.proofs.After.{splits}
use Rattle.house.proofs.Words.{acts_words, loosens_words, loosens_frames, acts_frames, store_at}

-- a home page is not reached
home_unreached : (d p : ℕ) (w : Bool) (u : Use) (c v : ℕ) → u ≡ Of c v Home → T (reaches d p w (loan_of u)) → ⊥
unfolding reaches loan_of
home_unreached d p w u c v e t = subst (λ (x : Use). T (reaches d p w (loan_of x))) e t

home_page : (u : Use) (c v : ℕ) → u ≡ Of c v Home → T (is_page u)
home_page u c v e = subst (λ (x : Use). T (is_page x)) (sym e) tt

-- a recall is of another page than one that is home
other_recalled : (s : State) (w x f c v : ℕ) → why s w (Recall x) ≡ 0 → s.what f ≡ Of c v Home → f ≡ frame_of s w x → ⊥
unfolding is_home loan_of
other_recalled s w x f c v e h q =
    let r = recall_passes s w x e in
    T_not (is_home (loan s w x)) r.1 (subst (λ (u : Use). T (is_home (loan_of u))) (sym h ∙ ap s.what q) tt)

map_home : (g : Loan → Loan) (u : Use) (c v : ℕ) → g Home ≡ Home → u ≡ Of c v Home → map_loan g u ≡ Of c v Home
unfolding map_loan
map_home g u c v e h = ap (map_loan g) h ∙ ap (Of c v) e

leaving_home : leaving Home ≡ Home
unfolding leaving
leaving_home = refl

leaving_from_home : (d : ℕ) → leaving_from d Home ≡ Home
unfolding leaving_from
leaving_from_home d = refl

home_from_home : (d : ℕ) → home_from d Home ≡ Home
unfolding home_from
home_from_home d = refl

no_table_home : (d c v : ℕ) (u : Use) → u ≡ Of c v Home → no_table d u ≡ Of c v Home
unfolding no_table
no_table_home d c v u e = ap (no_table d) e

-- what is let go early is never home
pub home_loosened : (k : Call) (s : State) (w f c v : ℕ) → why s w k ≡ 0 → s.what f ≡ Of c v Home → (loosens s w k).what f ≡ Of c v Home
unfolding loosens
home_loosened (Get x) s w f c v e h = h
home_loosened (Free x) s w f c v e h = h
home_loosened (Give x to at) s w f c v e h = h
home_loosened (Open d) s w f c v e h = h
home_loosened (Close d) s w f c v e h = map_home (leaving_from d) (s.what f) c v (leaving_from_home d) h
home_loosened (Regs d x) s w f c v e h = h
home_loosened (Lend x d p b) s w f c v e h = h
home_loosened (Recall x) s w f c v e h = there f (frame_of s w x) (Of w x (leaving (loan s w x))) (s.what f) (other_recalled s w x f c v e h) ∙ h
home_loosened (End x) s w f c v e h = map_home _ (s.what f) c v (choose (λ (y : Loan). y ≡ Home) _ (leaving Home) Home (λ _. leaving_home) (λ _. refl)) h

-- an event and a page that is home
abbrev HomeNow : Now → Use → ℕ → ℕ → Type 0
HomeNow Quiet u c v = Unit {0}
HomeNow (Under w k) u c v = u ≡ Of c v Home
HomeNow (Over w k a) u c v = Unit {0}

abbrev Owners : State → Event → State → Now → Type 0
Owners t e s n = (f c v : ℕ) → t.what f ≡ Of c v Home → HomeNow n (s.what f) c v × ((j : ℕ) → (s.word f j ≡ t.word f j) ⊎ (e ≡ Stored c v j (s.word f j)))

abbrev AtEvent : (Call → Bool) → State → List Event → State → Now → Type 0
AtEvent can start [] s n = Unit {0}
AtEvent can start (e ∷ es) s n = (t : State) × (m : Now) × Run can start es t m × Owners t e s n

home_now : (n : Now) (u : Use) (c v : ℕ) → u ≡ Of c v Home → HomeNow n u c v
home_now Quiet u c v e = tt
home_now (Under w k) u c v e = e
home_now (Over w k a) u c v e = tt

-- an event that leaves uses alone, and words of pages that are home
plain : (can : Call → Bool) (start : State) (es : List Event) (e : Event) (s s' : State) (m n : Now) → Run can start es s m → ((f : ℕ) → s'.what f ≡ s.what f) → ((f c v j : ℕ) → s.what f ≡ Of c v Home → s'.word f j ≡ s.word f j) → AtEvent can start (e ∷ es) s' n
plain can start es e s s' m n r w h = (s, m, r, λ f c v q. (home_now n (s'.what f) c v (w f ∙ q), λ j. inl (h f c v j q)))

let_event : (can : Call → Bool) (start : State) (es : List Event) (s : State) (w : ℕ) (k : Call) → why s w k ≡ 0 → AtEvent can start es s (Under w k) → AtEvent can start es (loosens s w k) (Under w k)
let_event can start [] s w k e g = tt
let_event can start (x ∷ es) s w k e g = (
  g.0,
  g.1,
  g.2,
  λ f c v q. let a = g.3 f c v q in
      (home_loosened k s w f c v e a.0, λ j. subst (λ (y : ℕ). (y ≡ g.0.word f j) ⊎ (x ≡ Stored c v j y)) (sym (ap (λ (y : ℕ → ℕ → ℕ). y f j) (loosens_words k s w))) (a.1 j)),
)

act_event : (can : Call → Bool) (start : State) (es : List Event) (s : State) (w : ℕ) (k : Call) (i : ℕ) → why s w k ≡ 0 → T (not (takes_frame s k) || idle s i) → AtEvent can start es s (Under w k) → AtEvent can start es (acts i s w k).state (Over w k (acts i s w k).answer)
act_event can start [] s w k i e o g = tt
act_event can start (x ∷ es) s w k i e o g = (
  g.0,
  g.1,
  g.2,
  λ f c v q. let a = g.3 f c v q in
      (tt, λ j. subst (λ (y : ℕ). (y ≡ g.0.word f j) ⊎ (x ≡ Stored c v j y)) (sym ((acts_words s w f k i e o).0 (home_page (s.what f) c v a.0) j)) (a.1 j)),
)

over_event : (can : Call → Bool) (start : State) (es : List Event) (s : State) (w : ℕ) (k : Call) (a : Answer) → AtEvent can start es s (Under w k) → AtEvent can start es s (Over w k a)
over_event can start [] s w k a g = tt
over_event can start (x ∷ es) s w k a g = (g.0, g.1, g.2, λ f c v q. (tt, (g.3 f c v q).1))

-- a store, and a device's write
stored_home : (s : State) (w x k y : ℕ) → T (has s w x) → (f c v j : ℕ) → s.what f ≡ Of c v Home →
    (cond (eqb f (frame_of s w x) && eqb j k) y (s.word f j) ≡ s.word f j) ⊎ (Stored w x k y ≡ Stored c v j (cond (eqb f (frame_of s w x) && eqb j k) y (s.word f j)))
stored_home s w x k y h f c v j q =
    choose (λ (z : ℕ). (z ≡ s.word f j) ⊎ (Stored w x k y ≡ Stored c v j z)) (eqb f (frame_of s w x) && eqb j k) y (s.word f j)
    (λ t. let b = both (eqb f (frame_of s w x)) (eqb j k) t in
    let e1 : f ≡ frame_of s w x = eqb→eq f (frame_of s w x) b.0 in
    let e2 : j ≡ k = eqb→eq j k b.1 in
    let o = of_same w x c v Home (subst (λ (u : Use). T (is_of w x u)) (sym (ap s.what e1) ∙ q) (found s w x h).1) in
    let o0 : w ≡ c = o.0 in let o1 : x ≡ v = o.1 in
    inr cc)
    (λ _. inl refl)

put_home : (s : State) (d p g k y : ℕ) → T (reaches d p true (loan_of (s.what g))) → (f c v j : ℕ) → s.what f ≡ Of c v Home → cond (eqb f g && eqb j k) y (s.word f j) ≡ s.word f j
put_home s d p g k y h f c v j q =
    choose (λ (z : ℕ). z ≡ s.word f j) (eqb f g && eqb j k) y (s.word f j)
    (λ t. absurd (home_unreached d p true (s.what f) c v q (subst (λ (x : ℕ). T (reaches d p true (loan_of (s.what x)))) (sym (eqb→eq f g (both (eqb f g) (eqb j k) t).0)) h))) (λ _. refl)

at_event : (can : Call → Bool) (start : State) {es : List Event} {s : State} {n : Now} → Run can start es s n → AtEvent can start es s n
at_event can start Meaning.begin = tt
at_event can start (Meaning.asks {es = es} {s = s} c k r) = plain can start es (Asked c k) s (set_drains [] [] s) Quiet (Under c k) r (λ f. refl) (λ f b v j q. refl)
at_event can start (Meaning.loosened {es = es} {s = s} {c = c} {k = k} r b w) = let_event can start es s c k w (at_event can start r)
at_event can start (Meaning.acted {es = es} {s = s} {c = c} {k = k} f r b w i x) = act_event can start es s c k f w i (at_event can start r)
at_event can start (Meaning.refused {es = es} {s = s} {c = c} {k = k} r b w) = over_event can start es s c k (No (why s c k)) (at_event can start r)
at_event can start (Meaning.not_built {es = es} {s = s} {c = c} {k = k} r b) = over_event can start es s c k (No 9) (at_event can start r)
at_event can start (Meaning.tells {es = es} {s = s} {c = c} {k = k} {a = a} r m) = plain can start es (Told c k a) s s (Over c k a) Quiet r (λ f. refl) (λ f b v j q. refl)
at_event can start (Meaning.loads {es = es} {s = s} c v k r h) = plain can start es _ s s Quiet Quiet r (λ f. refl) (λ f b v j q. refl)
at_event can start (Meaning.stores {es = es} {s = s} c v k x r h) = (s, Quiet, r, λ f b u q. (tt, λ j. stored_home s c v k x h f b u j q))
at_event can start (Meaning.pokes {es = es} {s = s} c v d r e) = plain can start es _ s s Quiet Quiet r (λ f. refl) (λ f b v j q. refl)
at_event can start (Meaning.faults {es = es} {s = s} c v r t) = plain can start es _ s s Quiet Quiet r (λ f. refl) (λ f b v j q. refl)
at_event can start (Meaning.took {es = es} {s = s} {n = n} d p f k r l t) = plain can start es _ s s n n r (λ f. refl) (λ f b v j q. refl)
at_event can start (Meaning.puts {es = es} {s = s} {n = n} d p g k x r l t) = plain can start es (PutInto d p g k x) s (set_word (λ e j. cond (eqb e g && eqb j k) x (s.word e j)) s) n n r (λ f. refl) (put_home s d p g k x t)
at_event can start (Meaning.misses {es = es} {s = s} {n = n} d p w r t) = plain can start es _ s s n n r (λ f. refl) (λ f b v j q. refl)
at_event can start (Meaning.drains {es = es} {s = s} {n = n} d b r) =
    noted (λ (x : State). AtEvent can start (Drained d b ∷ es) x n) d b s (plain can start es (Drained d b) s (set_drains (d ∷ s.drained) s.undrained s) n n r (λ f. refl) (λ f b v j q. refl)) (plain can start es (Drained d b) s (set_drains s.drained (d ∷ s.undrained) s) n n r (λ f. refl) (λ f b v j q. refl))

pub home_is_its_owners : HomeIsItsOwners
home_is_its_owners start every es e s n r = let g = at_event every start r in (g.0, g.1, g.2, λ f c v j q. (g.3 f c v q).1 j)

-- a page that is home, and that no call moves, stays where it is
idle_no_home : (u : Use) (c v : ℕ) → u ≡ Of c v Home → T (is_idle u) → ⊥
unfolding is_idle
idle_no_home u c v e t = subst (λ (x : Use). T (is_idle x)) e t

-- the frame of another's page, or of a page elsewhere, is another
other_frame : (s : State) (w x f c v : ℕ) → T (has s w x) → s.what f ≡ Of c v Home → T (not (eqb w c && eqb x v)) → f ≡ frame_of s w x → ⊥
other_frame s w x f c v h q n e =
    let o = of_same w x c v Home (subst (λ (u : Use). T (is_of w x u)) (sym (ap s.what e) ∙ q) (found s w x h).1) in
    T_not (eqb w c && eqb x v) n (pair (eqb w c) (eqb x v) (same_number w c o.0) (same_number x v o.1))

all_home : (n w : ℕ) (s : State) (f c v : ℕ) → s.what f ≡ Of c v Home → (shut_all n w s).what f ≡ Of c v Home
all_home n w s f c v h =
    through_shut_all (λ (t : State). t.what f ≡ Of c v Home) (λ d t e. no_table_home d c v (map_loan (home_from d) (t.what f)) (map_home (home_from d) (t.what f) c v (home_from_home d) e)) (λ d t e. map_home (leaving_from d) (t.what f) c v (leaving_from_home d) e) n w s h

not_of_home : (w c v : ℕ) (u : Use) → T (not (eqb w c)) → u ≡ Of c v Home → not_of w u ≡ Of c v Home
unfolding not_of
not_of_home w c v u n e = ap (not_of w) e ∙ taken_two (eqb w c) Idle (Of c v Home) n

home_acted : (k : Call) (i : ℕ) (s : State) (w f c v : ℕ) → why s w k ≡ 0 → T (not (takes_frame s k) || idle s i) → T (not (moves c v w k)) → s.what f ≡ Of c v Home → (acts i s w k).state.what f ≡ Of c v Home
unfolding acts why takes_frame
home_acted (Get x) i s w f c v e o n h = there f i (Of w x Home) (s.what f) (λ q. idle_no_home (s.what i) c v (ap s.what (sym q) ∙ h) (both (ltb i s.frames) (is_idle (s.what i)) o).1) ∙ h
home_acted (Free x) i s w f c v e o n h =
    let hs = not_not (has s w x) (passes (not (has s w x)) 1 _ (passes (leb 1024 x) 0 _ e).1).0 in
    there f (frame_of s w x) Idle (s.what f) (other_frame s w x f c v hs h n) ∙ h
home_acted (Give x to at) i s w f c v e o n h =
    let hs = not_not (has s w x) (passes (not (has s w x)) 1 _ (passes (leb 1024 x || leb 32 to || leb 1024 at) 0 _ e).1).0 in
    there f (frame_of s w x) (Of to at Home) (s.what f) (other_frame s w x f c v hs h n) ∙ h
home_acted (Open d) i s w f c v e o n h = there f i (TableOf d) (s.what f) (λ q. idle_no_home (s.what i) c v (ap s.what (sym q) ∙ h) (both (ltb i s.frames) (is_idle (s.what i)) o).1) ∙ h
home_acted (Close d) i s w f c v e o n h =
    choose (λ (y : Out). y.state.what f ≡ Of c v Home) (is_in d s.drained) _ _
    (λ _. no_table_home d c v (map_loan (home_from d) (s.what f)) (map_home (home_from d) (s.what f) c v (home_from_home d) h)) (λ _. map_home (leaving_from d) (s.what f) c v (leaving_from_home d) h)
home_acted (Regs d x) i s w f c v e o n h = h
home_acted (Lend x d p b) i s w f c v e o n h =
    let hs = not_not (has s w x) (passes (not (has s w x)) 1 _ (passes (leb 1024 x || leb s.devices d || leb 262144 p) 0 _ e).1).0 in
    let k : use_at (frame_of s w x) (Of w x (Lent d p b)) s.what f ≡ Of c v Home = there f (frame_of s w x) (Of w x (Lent d p b)) (s.what f) (other_frame s w x f c v hs h n) ∙ h in
    table_at (s.slots d (p / 512)) o k
  where
    table_at : (z : Bool) → T (not (not z) || idle s i) → use_at (frame_of s w x) (Of w x (Lent d p b)) s.what f ≡ Of c v Home → (cond z (Meaning.out Done (Meaning.set_use (use_at (frame_of s w x) (Of w x (Lent d p b)) s.what) s)) (Meaning.out Done (Meaning.set_slots (λ e i. s.slots e i || (eqb e d && eqb i (p / 512))) (Meaning.set_use (use_at i (TableOf d) (use_at (frame_of s w x) (Of w x (Lent d p b)) s.what)) s)))).state.what f ≡ Of c v Home
    table_at true y g = g
    table_at false y g = there f i (TableOf d) _ (λ q. idle_no_home (s.what i) c v (ap s.what (sym q) ∙ h) (both (ltb i s.frames) (is_idle (s.what i)) y).1) ∙ g
home_acted (Recall x) i s w f c v e o n h =
    choose (λ (y : Out). y.state.what f ≡ Of c v Home) (is_in (device_of (loan s w x)) s.drained) _ _ (λ _. there f (frame_of s w x) (Of w x Home) (s.what f) (other_recalled s w x f c v e h) ∙ h)
    (λ _. there f (frame_of s w x) (Of w x (leaving (loan s w x))) (s.what f) (other_recalled s w x f c v e h) ∙ h)
home_acted (End x) i s w f c v e o n h =
    let r = all_home s.devices x s f c v h in
    choose (λ (y : Out). y.state.what f ≡ Of c v Home) (all_drained s.devices x s) _ _ (λ _. not_of_home x c v ((shut_all s.devices x s).what f) n r) (λ _. r)

abbrev NotMoving : ℕ → ℕ → Now → Type 0
NotMoving c v Quiet = Unit {0}
NotMoving c v (Under w k) = T (not (moves c v w k))
NotMoving c v (Over w k a) = Unit {0}

module _ (can : Call → Bool) (t : State) (G : Fine t) (f c v : ℕ) (inside : f < t.frames) (home : t.what f ≡ Of c v Home) where
  record Stays (since : List Event) (s : State) (n : Now) : Type 0 where
    there_still : s.what f ≡ Of c v Home
    in_memory : f < s.frames
    words : (j : ℕ) → s.word f j ≡ stored_by c v since (t.word f) j
    unmoved : NotMoving c v n

  let_stay : (since : List Event) (s : State) (w : ℕ) (k : Call) → why s w k ≡ 0 → Stays since s (Under w k) → Stays since (loosens s w k) (Under w k)
  let_stay since s w k e g =
      record {
        there_still = home_loosened k s w f c v e g.there_still;
        in_memory = subst (λ (x : ℕ). f < x) (sym (loosens_frames k s w)) g.in_memory;
        words = λ j. ap (λ (y : ℕ → ℕ → ℕ). y f j) (loosens_words k s w) ∙ g.words j;
        unmoved = g.unmoved;
      }

  act_stay : (since : List Event) (s : State) (w : ℕ) (k : Call) (i : ℕ) → why s w k ≡ 0 → T (not (takes_frame s k) || idle s i) → Stays since s (Under w k) → Stays since (acts i s w k).state (Over w k (acts i s w k).answer)
  act_stay since s w k i e o g =
      record {
        there_still = home_acted k i s w f c v e o g.unmoved g.there_still;
        in_memory = subst (λ (x : ℕ). f < x) (sym (acts_frames k i s w)) g.in_memory;
        words = λ j. (acts_words s w f k i e o).0 (home_page (s.what f) c v g.there_still) j ∙ g.words j;
        unmoved = tt;
      }

  over_stay : (since : List Event) (s : State) (w : ℕ) (k : Call) (a : Answer) → Stays since s (Under w k) → Stays since s (Over w k a)
  over_stay since s w k a g = record { there_still = g.there_still; in_memory = g.in_memory; words = g.words; unmoved = tt }

  same_stay : (since since' : List Event) (s : State) (n n' : Now) → ((j : ℕ) → stored_by c v since (t.word f) j ≡ stored_by c v since' (t.word f) j) → NotMoving c v n' → Stays since s n → Stays since' s n'
  same_stay since since' s n n' e m g = record { there_still = g.there_still; in_memory = g.in_memory; words = λ j. g.words j ∙ e j; unmoved = m }

  store_stay : (since : List Event) (s : State) (w x k y : ℕ) → Fine s → T (has s w x) → Stays since s Quiet → Stays (Stored w x k y ∷ since) (set_word (λ g j. cond (eqb g (frame_of s w x) && eqb j k) y (s.word g j)) s) Quiet
  unfolding is_of
  store_stay since s w x k y F h g =
      record {
        there_still = g.there_still;
        in_memory = g.in_memory;
        words = λ j. ap (λ (b : Bool). cond (b && eqb j k) y (s.word f j)) (store_at s w x f F h g.in_memory ∙ ap (is_of w x) g.there_still) ∙ ap (λ (z : ℕ). cond (eqb w c && eqb x v && eqb j k) y z) (g.words j);
        unmoved = tt;
      }

  put_stay : (since : List Event) (s : State) (n : Now) (d p i k y : ℕ) → T (reaches d p true (loan_of (s.what i))) → Stays since s n → Stays (PutInto d p i k y ∷ since) (set_word (λ e j. cond (eqb e i && eqb j k) y (s.word e j)) s) n
  put_stay since s n d p i k y h g =
      record { there_still = g.there_still; in_memory = g.in_memory; words = λ j. put_home s d p i k y h f c v j g.there_still ∙ g.words j; unmoved = g.unmoved }

  drain_stay : (since : List Event) (s : State) (n : Now) (d : ℕ) (b : Bool) → Stays since s n → Stays (Drained d b ∷ since) (told_drain d b s) n
  drain_stay since s n d true g = record { there_still = g.there_still; in_memory = g.in_memory; words = g.words; unmoved = g.unmoved }
  drain_stay since s n d false g = record { there_still = g.there_still; in_memory = g.in_memory; words = g.words; unmoved = g.unmoved }

  stays_home : {since : List Event} {s : State} {n : Now} → Run can t since s n → T (rests c v since) → Stays since s n
  stays_home Meaning.begin q = record { there_still = home; in_memory = inside; words = λ j. refl; unmoved = tt }
  stays_home (Meaning.asks {es = since} {s = s} w k r) q =
      let b = both (not (moves c v w k)) (rests c v since) q in
      let g = stays_home r b.1 in
      record { there_still = g.there_still; in_memory = g.in_memory; words = g.words; unmoved = b.0 }
  stays_home (Meaning.loosened {es = since} {s = s} {c = w} {k = k} r b e) q = let_stay since s w k e (stays_home r q)
  stays_home (Meaning.acted {es = since} {s = s} {c = w} {k = k} i r b e o x) q = act_stay since s w k i e o (stays_home r q)
  stays_home (Meaning.refused {es = since} {s = s} {c = w} {k = k} r b e) q = over_stay since s w k (No (why s w k)) (stays_home r q)
  stays_home (Meaning.not_built {es = since} {s = s} {c = w} {k = k} r b) q = over_stay since s w k (No 9) (stays_home r q)
  stays_home (Meaning.tells {es = since} {s = s} {c = w} {k = k} {a = a} r m) q = same_stay since (Told w k a ∷ since) s (Over w k a) Quiet (λ j. refl) tt (stays_home r q)
  stays_home (Meaning.loads {es = since} {s = s} w x k r h) q = same_stay since (Loaded w x k (s.word (frame_of s w x) k) ∷ since) s Quiet Quiet (λ j. refl) tt (stays_home r q)
  stays_home (Meaning.stores {es = since} {s = s} w x k y r h) q = store_stay since s w x k y (fine can t G r) h (stays_home r q)
  stays_home (Meaning.pokes {es = since} {s = s} w x d r e) q = same_stay since (Poked w x d ∷ since) s Quiet Quiet (λ j. refl) tt (stays_home r q)
  stays_home (Meaning.faults {es = since} {s = s} w x r e) q = same_stay since (Faulted w x ∷ since) s Quiet Quiet (λ j. refl) tt (stays_home r q)
  stays_home (Meaning.took {es = since} {s = s} {n = n} d p i k r l h) q = let g = stays_home r q in same_stay since (TookFrom d p i k (s.word i k) ∷ since) s n n (λ j. refl) g.unmoved g
  stays_home (Meaning.puts {es = since} {s = s} {n = n} d p i k y r l h) q = put_stay since s n d p i k y h (stays_home r q)
  stays_home (Meaning.misses {es = since} {s = s} {n = n} d p w r h) q = let g = stays_home r q in same_stay since (Missed d p w ∷ since) s n n (λ j. refl) g.unmoved g
  stays_home (Meaning.drains {es = since} {s = s} {n = n} d b r) q = drain_stay since s n d b (stays_home r q)

pub home_stays : HomeStays
home_stays start h e every since es s n who k a r =
    let x = splits every start who k a es r since refl in
    let G : Fine x.0 = fine every start (subst Fine (sym e) (fine_start h)) x.1 in
    (x.0, x.1, λ f c v l q t. let g = stays_home every x.0 G f c v l q x.2 t in (g.there_still, g.words))
