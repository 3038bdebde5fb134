-- What comes of a step does not depend on which idle frame is taken. Assumes nothing.
use Rattle.std.proofs.Common.{◌≡◌, ℕ, zero, suc, ◌/◌, ◌<◌, Bool, true, false, cond, not, ◌&&◌, ◌||◌, T, eqb, ltb, leb, List, [], ◌∷◌, sym, refl, ap, ◌∙◌, subst, eqb→eq, ltb→lt}
use Rattle.house.specs.declared.Call.{Call}
use Rattle.house.specs.declared.Call.TheVariants.{Get, Free, Give, Open, Close, Regs, Lend, Recall, End}
use Rattle.house.specs.declared.Answer.{Answer}
use Rattle.house.specs.declared.Answer.TheVariants.{Done, Later, No}
use Rattle.house.specs.Event.{Event, Asked, Told}
use Rattle.house.specs.Machine.{Hw, Nothing}
use Rattle.house.specs.Meaning.{Loan, Home, Lent, Leaving, Use, House, TableOf, Idle, Of, State, any, every, is_in, is_idle, loan_of, is_at, is_lent, reaches, owner_is, has, frame_of, loan, idle, full, why, leaving, not_of, shut_all, set_use, set_word, set_drains, set_slots, use_at, acts, takes_frame, excused, is_later, may_tell, device_of, all_drained, Out, out, told_drain}
use Rattle.house.specs.Words.{is_page}
use Rattle.house.specs.Rows.{Step, Asks, Stores, Loads, Blank, Puts, Takes, Misses, AllIdle, Played, same, drained_by, drain_events, taken, asked, is_whose, blank, played, plays, all_play, found, finds, in_use, dome, table, group_of, driver_of, Chooses, RowsPlay}
use Rattle.house.proofs.Shelf.{both, pair, not_not, is_true, choose, passes, any_from, any_none, none_any, first_passes, every_same}
use Rattle.house.proofs.MeaningUses as Uses
use Rattle.house.proofs.Good.{Fine, acts_fine, fine_start}
use Rattle.house.proofs.Stays.{recall_passes, has_stays}
use Rattle.house.proofs.Words.{own_page, reached_page, fewer_pages}
use Rattle.house.proofs.Alike.{Sim, sim_self, uses_back, sim_map, sim_at, sim_word, sim_noughts, sim_swap, any_sim, first_sim, put, Like, Matched, like_shut, like_shutting, like_shut_all, has_sim, full_sim, frame_sim, loan_sim, why_sim}
use Rattle.house.proofs.Table.{first_idle, first_plays}

-- two choices by tests that agree
both_choose : {A : Type 0} (P : A → A → Type 0) (b b' : Bool) (x y x' y' : A) → b' ≡ b → (T b → P x x') → (T (not b) → P y y') → P (cond b x y) (cond b' x' y')
both_choose P true b' x y x' y' e p q = subst (λ (z : Bool). P x (cond z x' y')) (sym e) (p tt)
both_choose P false b' x y x' y' e p q = subst (λ (z : Bool). P y (cond z x' y')) (sym e) (q tt)

-- the page that is recalled is there
abbrev pub Recalled : State → ℕ → Call → Type 0
Recalled s c (Get v) = Unit {0}
Recalled s c (Free v) = Unit {0}
Recalled s c (Give v x y) = Unit {0}
Recalled s c (Open d) = Unit {0}
Recalled s c (Close d) = Unit {0}
Recalled s c (Regs d v) = Unit {0}
Recalled s c (Lend v d p b) = Unit {0}
Recalled s c (Recall v) = T (has s c v)
Recalled s c (End x) = Unit {0}

still_recalled : (s : State) (c : ℕ) (k : Call) (f : ℕ) → why s c k ≡ 0 → Recalled (acts f s c k).state c k
unfolding acts
still_recalled s c (Get v) f e = tt
still_recalled s c (Free v) f e = tt
still_recalled s c (Give v x y) f e = tt
still_recalled s c (Open d) f e = tt
still_recalled s c (Close d) f e = tt
still_recalled s c (Regs d v) f e = tt
still_recalled s c (Lend v d p b) f e = tt
still_recalled s c (Recall v) f e =
    let h = (recall_passes s c v e).0 in
    choose (λ (o : Out). T (has o.state c v)) (is_in (device_of (loan s c v)) s.drained) _ _ (λ _. subst T (sym (has_stays s c v Home h)) h) (λ _. subst T (sym (has_stays s c v (leaving (loan s c v)) h)) h)
still_recalled s c (End x) f e = tt

module _ (s : State) (u : ℕ → Use) (w : ℕ → ℕ → ℕ) (S : Sim s.frames s.what s.word u w) (G : Fine s) where
  all_drained_same : (n x : ℕ) → all_drained n x (put u w s) ≡ all_drained n x s
  unfolding all_drained
  all_drained_same zero x = refl
  all_drained_same (suc n) x = ap (λ (b : Bool). (not (owner_is x (s.dev n)) || is_in n s.drained) && b) (all_drained_same n x)

  -- the frame of one's page becomes something else
  page_changed : (c v : ℕ) (x : Use) → T (has s c v) → Like (set_use (use_at (frame_of s c v) x s.what) s) (set_use (use_at (frame_of (put u w s) c v) x u) (put u w s))
  page_changed c v x h =
      subst (λ (y : ℕ). Like (set_use (use_at (frame_of s c v) x s.what) s) (set_use (use_at y x u) (put u w s))) (sym (frame_sim s u w S G c v h))
      (record { u = use_at (S.to (frame_of s c v)) x u; w = w; is = refl; sim = sim_at s.frames s.what s.word u w S (frame_of s c v) x (Uses.found s c v h).0 (λ _. own_page s c v (frame_of s c v) h refl) })

  -- the idle frames that are taken are made one another's
  same_idle : (f g : ℕ) → T (idle s f) → T (idle (put u w s) g) → (Z : Sim s.frames s.what s.word u w) × (Z.to f ≡ g) × (f < s.frames)
  same_idle f g p q =
      let a = both (ltb f s.frames) (is_idle (s.what f)) p in
      let b = both (ltb g s.frames) (is_idle (u g)) q in
      let r = sim_swap s.frames s.what s.word u w S f g (ltb→lt f s.frames a.0) (ltb→lt g s.frames b.0) a.1 b.1 in
      (r.0, r.1, ltb→lt f s.frames a.0)

  recall_same : (c v : ℕ) → T (has s c v) → (fr : ℕ) (l : Loan) → fr ≡ frame_of (put u w s) c v → l ≡ loan s c v →
      Matched
      (cond (is_in (device_of (loan s c v)) s.drained) (out Done (set_use (use_at (frame_of s c v) (Of c v Home) s.what) s)) (out Later (set_use (use_at (frame_of s c v) (Of c v (leaving (loan s c v))) s.what) s)))
      (cond (is_in (device_of l) s.drained) (out Done (set_use (use_at fr (Of c v Home) u) (put u w s))) (out Later (set_use (use_at fr (Of c v (leaving l)) u) (put u w s))))
  recall_same c v h fr l e q =
      both_choose Matched (is_in (device_of (loan s c v)) s.drained) (is_in (device_of l) s.drained) _ _ _ _ (ap (λ (x : Loan). is_in (device_of x) s.drained) q)
      (λ _. record { answer = refl; like = subst (λ (y : ℕ). Like (set_use (use_at (frame_of s c v) (Of c v Home) s.what) s) (set_use (use_at y (Of c v Home) u) (put u w s))) (sym e) (page_changed c v (Of c v Home) h) })
      (λ _. record {
        answer = refl;
        like = subst (λ (y : ℕ). Like (set_use (use_at (frame_of s c v) (Of c v (leaving (loan s c v))) s.what) s) (set_use (use_at y (Of c v (leaving l)) u) (put u w s))) (sym e)
            (subst (λ (m : Loan). Like (set_use (use_at (frame_of s c v) (Of c v (leaving (loan s c v))) s.what) s) (set_use (use_at (frame_of (put u w s) c v) (Of c v (leaving m)) u) (put u w s))) (sym q) (page_changed c v (Of c v (leaving (loan s c v))) h));
      })

  idle_of : (f : ℕ) (a : Bool) → T a → T (not a || idle s f) → T (idle s f)
  idle_of f true t h = h
  idle_of f false t h = absurd t

  idle_of' : (g : ℕ) (a : Bool) → T a → T (not a || idle (put u w s) g) → T (idle (put u w s) g)
  idle_of' g true t h = h
  idle_of' g false t h = absurd t

  lend_new : (c v d p : ℕ) (b : Bool) (f g : ℕ) → T (has s c v) → T (idle s f) → T (idle (put u w s) g) →
      Like (set_slots (λ e i. s.slots e i || (eqb e d && eqb i (p / 512))) (set_use (use_at f (TableOf d) (use_at (frame_of s c v) (Of c v (Lent d p b)) s.what)) s))
      (set_slots (λ e i. s.slots e i || (eqb e d && eqb i (p / 512))) (set_use (use_at g (TableOf d) (use_at (frame_of (put u w s) c v) (Of c v (Lent d p b)) u)) (put u w s)))
  unfolding sim_at
  lend_new c v d p b f g h i j =
      let r = same_idle f g i j in
      let Z = r.0 in
      let fo : ℕ = frame_of s c v in
      let one = sim_at s.frames s.what s.word u w Z fo (Of c v (Lent d p b)) (Uses.found s c v h).0 (λ _. own_page s c v fo h refl) in
      let two = sim_at s.frames (use_at fo (Of c v (Lent d p b)) s.what) s.word (use_at (Z.to fo) (Of c v (Lent d p b)) u) w one f (TableOf d) r.2 (λ y. absurd y) in
      subst (λ (y : ℕ). Like (set_slots (λ e i. s.slots e i || (eqb e d && eqb i (p / 512))) (set_use (use_at f (TableOf d) (use_at fo (Of c v (Lent d p b)) s.what)) s)) (set_slots (λ e i. s.slots e i || (eqb e d && eqb i (p / 512))) (set_use (use_at g (TableOf d) (use_at y (Of c v (Lent d p b)) u)) (put u w s))))
      (sym (frame_sim s u w Z G c v h))
      (subst (λ (y : ℕ). Like (set_slots (λ e i. s.slots e i || (eqb e d && eqb i (p / 512))) (set_use (use_at f (TableOf d) (use_at fo (Of c v (Lent d p b)) s.what)) s)) (set_slots (λ e i. s.slots e i || (eqb e d && eqb i (p / 512))) (set_use (use_at y (TableOf d) (use_at (Z.to fo) (Of c v (Lent d p b)) u)) (put u w s))))
      r.1 (record { u = use_at (Z.to f) (TableOf d) (use_at (Z.to fo) (Of c v (Lent d p b)) u); w = w; is = refl; sim = two }))

  pub acts_same : (c : ℕ) (k : Call) (f g : ℕ) → why s c k ≡ 0 → T (not (takes_frame s k) || idle s f) → T (not (takes_frame s k) || idle (put u w s) g) → Matched (acts f s c k) (acts g (put u w s) c k)
  unfolding acts why takes_frame
  acts_same c (Get v) f g e i j =
      let r = same_idle f g i j in
      subst (λ (y : ℕ). Matched (acts f s c (Get v)) (acts y (put u w s) c (Get v))) r.1
      (record { answer = refl; like = record { u = use_at (r.0.to f) (Of c v Home) u; w = λ h k. cond (eqb h (r.0.to f)) 0 (w h k); is = refl; sim = sim_noughts s.frames s.what s.word u w r.0 f (Of c v Home) r.2 } })
  acts_same c (Free v) f g e i j = record { answer = refl; like = page_changed c v Idle (not_not (has s c v) (passes (not (has s c v)) 1 _ (passes (leb 1024 v) 0 _ e).1).0) }
  acts_same c (Give v x y) f g e i j = record { answer = refl; like = page_changed c v (Of x y Home) (not_not (has s c v) (passes (not (has s c v)) 1 _ (passes (leb 1024 v || leb 32 x || leb 1024 y) 0 _ e).1).0) }
  acts_same c (Open d) f g e i j =
      let r = same_idle f g i j in
      subst (λ (y : ℕ). Matched (acts f s c (Open d)) (acts y (put u w s) c (Open d))) r.1
      (record { answer = refl; like = record { u = use_at (r.0.to f) (TableOf d) u; w = w; is = refl; sim = sim_at s.frames s.what s.word u w r.0 f (TableOf d) r.2 (λ y. absurd y) } })
  acts_same c (Close d) f g e i j =
      let L : Like s (put u w s) = record { u = u; w = w; is = refl; sim = S } in
      both_choose Matched (is_in d s.drained) (is_in d s.drained) _ _ _ _ refl (λ _. record { answer = refl; like = like_shut d s (put u w s) L }) (λ _. record { answer = refl; like = like_shutting d s (put u w s) L })
  acts_same c (Regs d v) f g e i j = record { answer = refl; like = record { u = u; w = w; is = refl; sim = S } }
  acts_same c (Lend v d p b) f g e i j =
      let h = not_not (has s c v) (passes (not (has s c v)) 1 _ (passes (leb 1024 v || leb s.devices d || leb 262144 p) 0 _ e).1).0 in
      both_choose Matched (s.slots d (p / 512)) (s.slots d (p / 512)) _ _ _ _ refl (λ _. record { answer = refl; like = page_changed c v (Of c v (Lent d p b)) h })
      (λ n. record { answer = refl; like = lend_new c v d p b f g h (idle_of f (not (s.slots d (p / 512))) n i) (idle_of' g (not (s.slots d (p / 512))) n j) })
  acts_same c (Recall v) f g e i j = let h = (recall_passes s c v e).0 in recall_same c v h (frame_of (put u w s) c v) (loan (put u w s) c v) refl (loan_sim s u w S G c v h)
  acts_same c (End x) f g e i j =
      let A : State = shut_all s.devices x s in
      let B : State = shut_all s.devices x (put u w s) in
      let L : Like A B = like_shut_all s u w S s.devices x in
      both_choose Matched (all_drained s.devices x s) (all_drained s.devices x (put u w s)) _ _ _ _ (all_drained_same s.devices x)
      (λ _. record {
        answer = refl;
        like = record { u = λ g. not_of x (L.u g); w = L.w; is = ap (λ (y : State). set_use (λ g. not_of x (y.what g)) y) L.is; sim = sim_map A.frames A.what A.word L.u L.w L.sim (not_of x) (λ y t. fewer_pages y (not_of x y) (Uses.not_of_fewer x y) t) };
      })
      (λ _. record { answer = refl; like = L })

  -- what drains excuse, they excuse
  pub excused_same : (c : ℕ) (k : Call) → why s c k ≡ 0 → excused (put u w s) c k ≡ excused s c k
  unfolding excused
  excused_same c (Get v) e = refl
  excused_same c (Free v) e = refl
  excused_same c (Give v x y) e = refl
  excused_same c (Open d) e = refl
  excused_same c (Close d) e = refl
  excused_same c (Regs d v) e = refl
  excused_same c (Lend v d p b) e = refl
  excused_same c (Recall v) e = ap (λ (l : Loan). is_in (device_of l) s.drained || is_in (device_of l) s.undrained) (loan_sim s u w S G c v (recall_passes s c v e).0)
  excused_same c (End x) e = refl

  pub takes_same : (k : Call) → takes_frame (put u w s) k ≡ takes_frame s k
  unfolding takes_frame
  takes_same (Get v) = refl
  takes_same (Free v) = refl
  takes_same (Give v x y) = refl
  takes_same (Open d) = refl
  takes_same (Close d) = refl
  takes_same (Regs d v) = refl
  takes_same (Lend v d p b) = refl
  takes_same (Recall v) = refl
  takes_same (End x) = refl

  -- it would come to the same answer again
  pub answer_same : (c : ℕ) (k : Call) → Recalled s c k → (acts 0 (put u w s) c k).answer ≡ (acts 0 s c k).answer
  unfolding acts
  answer_same c (Get v) h = refl
  answer_same c (Free v) h = refl
  answer_same c (Give v x y) h = refl
  answer_same c (Open d) h = refl
  answer_same c (Close d) h = both_choose (λ (x y : Out). y.answer ≡ x.answer) (is_in d s.drained) (is_in d s.drained) _ _ _ _ refl (λ _. refl) (λ _. refl)
  answer_same c (Regs d v) h = refl
  answer_same c (Lend v d p b) h = both_choose (λ (x y : Out). y.answer ≡ x.answer) (s.slots d (p / 512)) (s.slots d (p / 512)) _ _ _ _ refl (λ _. refl) (λ _. refl)
  answer_same c (Recall v) h =
      both_choose (λ (x y : Out). y.answer ≡ x.answer) (is_in (device_of (loan s c v)) s.drained) (is_in (device_of (loan (put u w s) c v)) s.drained) _ _ _ _ (ap (λ (l : Loan). is_in (device_of l) s.drained) (loan_sim s u w S G c v h)) (λ _. refl) (λ _. refl)
  answer_same c (End x) h = both_choose (λ (x y : Out). y.answer ≡ x.answer) (all_drained s.devices x s) (all_drained s.devices x (put u w s)) _ _ _ _ (all_drained_same s.devices x) (λ _. refl) (λ _. refl)

-- what is reached is found there
reach_found : (d p : ℕ) (b : Bool) (l : Loan) → T (reaches d p b l) → T (is_at d p l)
unfolding reaches is_at
reach_found d p b Home t = t
reach_found d p b (Lent e q x) t = (both (eqb d e && eqb p q) (x || not b) t).0
reach_found d p b (Leaving e q x) t = (both (eqb d e && eqb p q) (x || not b) t).0

whose_page : (c : ℕ) (u : Use) → T (is_whose c u) → T (is_page u)
whose_page c House t = t
whose_page c (TableOf d) t = t
whose_page c Idle t = t
whose_page c (Of w x l) t = tt

-- drains are noted alike
told_put : (u : ℕ → Use) (w : ℕ → ℕ → ℕ) (d : ℕ) (b : Bool) (z : State) → told_drain d b (put u w z) ≡ put u w (told_drain d b z)
told_put u w d true z = refl
told_put u w d false z = refl

drained_put : (u : ℕ → Use) (w : ℕ → ℕ → ℕ) (ds : List (ℕ × Bool)) (z : State) → drained_by ds (put u w z) ≡ put u w (drained_by ds z)
unfolding drained_by
drained_put u w [] z = refl
drained_put u w (d ∷ ds) z = ap (drained_by ds) (told_put u w d.0 d.1 z) ∙ drained_put u w ds (told_drain d.0 d.1 z)

-- nothing else is changed by them
abbrev Fits : (ℕ → Use) → (ℕ → ℕ → ℕ) → State → Type 0
Fits u w z = Sim z.frames z.what z.word u w × Fine z

told_fits : (u : ℕ → Use) (w : ℕ → ℕ → ℕ) (d : ℕ) (b : Bool) (z : State) → Fits u w z → Fits u w (told_drain d b z)
told_fits u w d true z h = h
told_fits u w d false z h = h

drained_fits : (u : ℕ → Use) (w : ℕ → ℕ → ℕ) (ds : List (ℕ × Bool)) (z : State) → Fits u w z → Fits u w (drained_by ds z)
unfolding drained_by
drained_fits u w [] z h = h
drained_fits u w (d ∷ ds) z h = drained_fits u w ds (told_drain d.0 d.1 z) (told_fits u w d.0 d.1 z h)

-- one comes after the other
abbrev Follows : Played → Played → Type 0
Follows r t = T r.fits → T t.fits × Like r.state t.state × Fine r.state

abbrev answered_by : ℕ → (State → ℕ) → State → ℕ → Call → List Event → Answer → Played
answered_by n pick z c k es a = cond (eqb n 0) (record { fits = taken z c k (pick z) a (acts (pick z) z c k); state = (acts (pick z) z c k).state; events = es }) (record { fits = same a (No n); state = z; events = es })

not_full : (z : State) (f : ℕ) → T (idle z f) → T (not (full z))
not_full z f h =
    let q = both (ltb f z.frames) (is_idle (z.what f)) h in
    subst (λ (b : Bool). T (not (not b))) (sym (is_true (any z.frames (λ (g : ℕ). is_idle (z.what g))) (any_from z.frames (λ (g : ℕ). is_idle (z.what g)) f (ltb→lt f z.frames q.0) q.1))) tt

module _ (pick : State → ℕ) (C : Chooses pick) where
  picks : (z : State) (u : ℕ → Use) (w : ℕ → ℕ → ℕ) → Sim z.frames z.what z.word u w → (f : ℕ) (b : Bool) → T (not b || idle z f) → T (not b || idle (put u w z) (pick (put u w z)))
  picks z u w S f true h = C (put u w z) (subst (λ (x : Bool). T (not x)) (sym (full_sim z u w S)) (not_full z f h))
  picks z u w S f false h = tt

  answered_same : (z : State) (u : ℕ → Use) (w : ℕ → ℕ → ℕ) → Fits u w z → (c : ℕ) (k : Call) (es : List Event) (a : Answer) → Follows (answered_by (why z c k) first_idle z c k es a) (answered_by (why (put u w z) c k) pick (put u w z) c k es a)
  unfolding taken
  answered_same z u w F c k es a =
      let t : State = put u w z in
      subst (λ (n : ℕ). Follows (answered_by (why z c k) first_idle z c k es a) (answered_by n pick t c k es a)) (sym (why_sim z u w F.0 F.1 c k))
      (both_choose Follows (eqb (why z c k) 0) (eqb (why z c k) 0) _ _ _ _ refl
      (λ e y.
      let z0 : why z c k ≡ 0 = eqb→eq (why z c k) 0 e in
      let f : ℕ = first_idle z in
      let g : ℕ = pick t in
      let o : Out = acts f z c k in
      let p : Out = acts g t c k in
      let q = both (not (takes_frame z k) || idle z f) (excused z c k && (same a o.answer && may_tell o.state c k a)) y in
      let q2 = both (excused z c k) (same a o.answer && may_tell o.state c k a) q.1 in
      let q3 = both (same a o.answer) (may_tell o.state c k a) q2.1 in
      let j : T (not (takes_frame z k) || idle t g) = picks z u w F.0 f (takes_frame z k) q.0 in
      let M : Matched o p = acts_same z u w F.0 F.1 c k f g z0 q.0 j in
      let G : Fine o.state = acts_fine k f z c z0 F.1 in
      let one : T (not (takes_frame t k) || idle t g) = subst (λ (b : Bool). T (not b || idle t g)) (sym (takes_same z u w F.0 F.1 k)) j in
      let two : T (excused t c k) = subst T (sym (excused_same z u w F.0 F.1 c k z0)) q2.0 in
      let three : T (same a p.answer) = subst (λ (x : Answer). T (same a x)) (sym M.answer) q3.0 in
      let again : (acts 0 (put M.like.u M.like.w o.state) c k).answer ≡ (acts 0 o.state c k).answer = answer_same o.state M.like.u M.like.w M.like.sim G c k (still_recalled z c k f z0) in
      let four : T (may_tell p.state c k a) = subst (λ (x : State). T (may_tell x c k a)) (sym M.like.is) (subst (λ (x : Answer). T (not (is_later a) || is_later x)) (sym again) q3.1) in
      (pair (not (takes_frame t k) || idle t g) (excused t c k && (same a p.answer && may_tell p.state c k a)) one (pair (excused t c k) (same a p.answer && may_tell p.state c k a) two (pair (same a p.answer) (may_tell p.state c k a) three four)), M.like, G))
      (λ e y. (y, record { u = u; w = w; is = refl; sim = F.0 }, F.1)))

  asked_same : (s : State) (u : ℕ → Use) (w : ℕ → ℕ → ℕ) → Fits u w s → (c : ℕ) (k : Call) (ds : List (ℕ × Bool)) (a : Answer) → Follows (asked first_idle s c k ds a) (asked pick (put u w s) c k ds a)
  unfolding asked
  asked_same s u w F c k ds a =
      let z : State = drained_by ds (set_drains [] [] s) in
      let es : List Event = Told c k a ∷ drain_events ds (Asked c k ∷ []) in
      subst (λ (y : State). Follows (answered_by (why z c k) first_idle z c k es a) (answered_by (why y c k) pick y c k es a)) (sym (drained_put u w ds (set_drains [] [] s))) (answered_same z u w (drained_fits u w ds (set_drains [] [] s) F) c k es a)

  module _ (s : State) (u : ℕ → Use) (w : ℕ → ℕ → ℕ) (F : Fits u w s) where
    finds_same : (d p : ℕ) (b : Bool) → finds (put u w s) d p b ≡ finds s d p b
    finds_same d p b = any_sim s.frames s.what s.word u w F.0 (λ (x : Use). reaches d p b (loan_of x))

    found_same : (d p : ℕ) (b : Bool) → T (finds s d p b) → found (put u w s) d p b ≡ F.0.to (found s d p b)
    found_same d p b h =
        first_sim s.frames s.what s.word u w F.0 (λ (x : Use). reaches d p b (loan_of x)) h (λ f g lf lg y z. F.1.page d p f g lf lg (reach_found d p b (loan_of (s.what f)) y) (reach_found d p b (loan_of (s.what g)) z))

    -- a word of a frame that is a page
    word_same : (f g k : ℕ) → g ≡ F.0.to f → f < s.frames → T (is_page (s.what f)) → w g k ≡ s.word f k
    word_same f g k e l h = ap (λ (y : ℕ). w y k) e ∙ F.0.words f k l h

    store_same : (f g k x : ℕ) → g ≡ F.0.to f → f < s.frames → Like (set_word (λ h j. cond (eqb h f && eqb j k) x (s.word h j)) s) (set_word (λ h j. cond (eqb h g && eqb j k) x (w h j)) (put u w s))
    store_same f g k x e l =
        subst (λ (y : ℕ). Like (set_word (λ h j. cond (eqb h f && eqb j k) x (s.word h j)) s) (set_word (λ h j. cond (eqb h y && eqb j k) x (w h j)) (put u w s))) (sym e)
        (record { u = u; w = λ h j. cond (eqb h (F.0.to f) && eqb j k) x (w h j); is = refl; sim = sim_word s.frames s.what s.word u w F.0 f k x l })

    -- whose pages are noughts
    blank_same : (c : ℕ) → T (not (any s.frames (λ (f : ℕ). is_whose c (s.what f) && not (blank (s.word f))))) → T (not (any s.frames (λ (f : ℕ). is_whose c (u f) && not (blank (w f)))))
    unfolding blank
    blank_same c h =
        none_any s.frames (λ (f : ℕ). is_whose c (u f) && not (blank (w f)))
        (λ g l t.
        let S = F.0 in
        let f : ℕ = S.from g in
        let b = both (is_whose c (u g)) (not (blank (w g))) t in
        let o : T (is_whose c (s.what f)) = subst (λ (x : Use). T (is_whose c x)) (uses_back s.frames s.what s.word u w S g l) b.0 in
        let e : blank (w g) ≡ blank (s.word f) = every_same 512 (λ (k : ℕ). eqb (w g k) 0) (λ (k : ℕ). eqb (s.word f k) 0) (λ k. ap (λ (y : ℕ). eqb y 0) (word_same f g k (sym (S.forth g l)) (S.from_in g l) (whose_page c (s.what f) o))) in
        any_none s.frames (λ (f : ℕ). is_whose c (s.what f) && not (blank (s.word f))) h f (S.from_in g l) (pair (is_whose c (s.what f)) (not (blank (s.word f))) o (subst (λ (x : Bool). T (not x)) e b.1)))

    alike : Like s (put u w s)
    alike = record { u = u; w = w; is = refl; sim = F.0 }

    step_same : (x : Step) → Follows (played first_idle s x) (played pick (put u w s) x)
    unfolding played
    step_same (Asks c k ds a) h = asked_same s u w F c k ds a h
    step_same (Stores c v k x) h = (subst T (sym (has_sim s u w F.0 c v)) h, store_same (frame_of s c v) (frame_of (put u w s) c v) k x (frame_sim s u w F.0 F.1 c v h) (Uses.found s c v h).0, F.1)
    step_same (Loads c v k x) h =
        let b = both (has s c v) (eqb (s.word (frame_of s c v) k) x) h in
        let e : w (frame_of (put u w s) c v) k ≡ s.word (frame_of s c v) k = word_same (frame_of s c v) (frame_of (put u w s) c v) k (frame_sim s u w F.0 F.1 c v b.0) (Uses.found s c v b.0).0 (own_page s c v (frame_of s c v) b.0 refl) in
        (pair (has (put u w s) c v) (eqb (w (frame_of (put u w s) c v) k) x) (subst T (sym (has_sim s u w F.0 c v)) b.0) (subst (λ (y : ℕ). T (eqb y x)) (sym e) b.1), alike, F.1)
    step_same (Blank c n) h =
        let b = both (every n (λ (v : ℕ). has s c v)) (not (any s.frames (λ (f : ℕ). is_whose c (s.what f) && not (blank (s.word f))))) h in
        (pair (every n (λ (v : ℕ). has (put u w s) c v)) (not (any s.frames (λ (f : ℕ). is_whose c (u f) && not (blank (w f))))) (subst T (sym (every_same n (λ (v : ℕ). has (put u w s) c v) (λ (v : ℕ). has s c v) (λ v. has_sim s u w F.0 c v))) b.0) (blank_same c b.1), alike, F.1)
    step_same (Puts d p k x) h = (subst T (sym (finds_same d p true)) h, store_same (found s d p true) (found (put u w s) d p true) k x (found_same d p true h) (first_passes s.frames (λ (f : ℕ). reaches d p true (loan_of (s.what f))) h).0, F.1)
    step_same (Takes d p k x) h =
        let b = both (finds s d p false) (eqb (s.word (found s d p false) k) x) h in
        let q = first_passes s.frames (λ (f : ℕ). reaches d p false (loan_of (s.what f))) b.0 in
        let e : w (found (put u w s) d p false) k ≡ s.word (found s d p false) k = word_same (found s d p false) (found (put u w s) d p false) k (found_same d p false b.0) q.0 (reached_page d p false (s.what (found s d p false)) q.1) in
        (pair (finds (put u w s) d p false) (eqb (w (found (put u w s) d p false) k) x) (subst T (sym (finds_same d p false)) b.0) (subst (λ (y : ℕ). T (eqb y x)) (sym e) b.1), alike, F.1)
    step_same (Misses d p b) h = (subst (λ (y : Bool). T (not y)) (sym (any_sim s.frames s.what s.word u w F.0 (λ (x : Use). is_lent d p b (loan_of x)))) h, alike, F.1)
    step_same AllIdle h = (subst (λ (y : Bool). T (not y)) (sym (any_sim s.frames s.what s.word u w F.0 in_use)) h, alike, F.1)

  plays_same : (row : List Step) (s t : State) → Like s t → Fine s → T (plays first_idle s row) → T (plays pick t row)
  unfolding plays
  plays_same [] s t L G h = tt
  plays_same (x ∷ xs) s t L G h =
      let b = both (played first_idle s x).fits (plays first_idle (played first_idle s x).state xs) h in
      let r : Follows (played first_idle s x) (played pick t x) = subst (λ (y : State). Follows (played first_idle s x) (played pick y x)) (sym L.is) (step_same s L.u L.w (L.sim, G) x) in
      let q = r b.0 in
      pair (played pick t x).fits (plays pick (played pick t x).state xs) q.0 (plays_same xs (played first_idle s x).state (played pick t x).state q.1 q.2 b.1)

  all_same : (rows : List (List Step)) (s : State) → Fine s → T (all_play first_idle s rows) → T (all_play pick s rows)
  unfolding all_play
  all_same [] s G h = tt
  all_same (row ∷ rows) s G h =
      let b = both (plays first_idle s row) (all_play first_idle s rows) h in
      pair (plays pick s row) (all_play pick s rows) (plays_same row s s (record { u = s.what; w = s.word; is = refl; sim = sim_self s.frames s.what s.word }) G b.0) (all_same rows s G b.1)

-- a machine that starts so
machine : Hw
machine = record { frames = 64; devices = 4; group = group_of; driver = driver_of; mem = λ f k. 0; space = λ c v. Nothing; live = false; ups = []; mids = []; leaves = []; flying = []; left = 2048 }

fine_dome : Fine dome
unfolding dome machine
fine_dome = fine_start machine

pub rows_play : RowsPlay
rows_play pick C = all_same pick C table dome fine_dome first_plays
