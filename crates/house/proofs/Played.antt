-- Whatever plays is explained. Assumes nothing.
use Rattle.std.proofs.Common.{◌≡◌, ℕ, zero, suc, ◌<◌, Bool, true, false, not, ◌&&◌, ◌||◌, T, eqb, List, [], ◌∷◌, ◌++◌, sym, refl, ap, subst, ⊎_elim, append_assoc, append-nil, arith, eqb→eq}
use Rattle.house.specs.declared.Call.{Call}
use Rattle.house.specs.declared.Call.TheVariants.{Get, Free, Give, Open, Close, Regs, Lend, Recall, End}
use Rattle.house.specs.declared.Answer.{Answer}
use Rattle.house.specs.declared.Answer.TheVariants.{Done, Later, No}
use Rattle.house.specs.Event.{Event, Asked, Told, Loaded, TookFrom, Drained}
use Rattle.house.specs.Meaning
use Rattle.house.specs.Meaning.{State, Use, House, TableOf, Idle, Of, is_of, every, any, loan_of, reaches, has, frame_of, idle, why, set_drains, Out, acts, takes_frame, excused, is_later, may_tell, told_drain, all, Run, Now, Quiet, Under, Over}
use Rattle.house.specs.Rows.{Step, Asks, Stores, Loads, Blank, Puts, Takes, Misses, AllIdle, Played, same, drained_by, drain_events, taken, asked, loaded_all, loaded_pages, is_whose, blank, played, plays, seen, found, finds, PlayedIsExplained}
use Rattle.house.proofs.Shelf.{both, pair, decide, choose, any_none, first_passes, differ}
use Rattle.house.proofs.MeaningUses as Uses

every_call : (k : Call) → T (all k)
unfolding all
every_call (Get v) = tt
every_call (Free v) = tt
every_call (Give v to at) = tt
every_call (Open d) = tt
every_call (Close d) = tt
every_call (Regs d v) = tt
every_call (Lend v d p w) = tt
every_call (Recall v) = tt
every_call (End w) = tt

same_answer : (a b : Answer) → T (same a b) → a ≡ b
same_answer Done Done t = refl
same_answer Done Later t = absurd t
same_answer Done (No j) t = absurd t
same_answer Later Done t = absurd t
same_answer Later Later t = refl
same_answer Later (No j) t = absurd t
same_answer (No i) Done t = absurd t
same_answer (No i) Later t = absurd t
same_answer (No i) (No j) t = ap No (eqb→eq i j t)

whose : (c v : ℕ) (u : Use) → T (is_of c v u) → T (is_whose c u)
unfolding is_of
whose c v House t = t
whose c v (TableOf d) t = t
whose c v Idle t = t
whose c v (Of w x l) t = (both (eqb c w) (eqb v x) t).0

module _ (start : State) where
  drained_run : (ds : List (ℕ × Bool)) (acc es : List Event) (z : State) (n : Now) → Run all start (acc ++ es) z n → Run all start (drain_events ds acc ++ es) (drained_by ds z) n
  unfolding drain_events drained_by
  drained_run [] acc es z n r = r
  drained_run (d ∷ ds) acc es z n r = drained_run ds (Drained d.0 d.1 ∷ acc) es (told_drain d.0 d.1 z) n (Meaning.drains d.0 d.1 r)

  call_run : (pick : State → ℕ) (s : State) (c : ℕ) (k : Call) (ds : List (ℕ × Bool)) (a : Answer) (es : List Event) → Run all start es s Quiet → T (asked pick s c k ds a).fits → Run all start ((asked pick s c k ds a).events ++ es) (asked pick s c k ds a).state Quiet
  unfolding asked taken is_later
  call_run pick s c k ds a es r =
      let u : State = drained_by ds (set_drains [] [] s) in
      let ev : List Event = drain_events ds (Asked c k ∷ []) ++ es in
      let under : Run all start ev u (Under c k) = drained_run ds (Asked c k ∷ []) es (set_drains [] [] s) (Under c k) (Meaning.asks c k r) in
      choose (λ (p : Played). T p.fits → Run all start (p.events ++ es) p.state Quiet) (eqb (why u c k) 0) _ _
      (λ e t.
      let o : Out = acts (pick u) u c k in
      let q = both (not (takes_frame u k) || idle u (pick u)) (excused u c k && (same a o.answer && may_tell o.state c k a)) t in
      let q2 = both (excused u c k) (same a o.answer && may_tell o.state c k a) q.1 in
      let q3 = both (same a o.answer) (may_tell o.state c k a) q2.1 in
      let over : Run all start ev o.state (Over c k o.answer) = Meaning.acted (pick u) under (every_call k) (eqb→eq (why u c k) 0 e) q.0 q2.0 in
      Meaning.tells (subst (λ (x : Answer). Run all start ev o.state (Over c k x)) (sym (same_answer a o.answer q3.0)) over) q3.1)
      (λ e t.
      let p : 0 < why u c k = omega (arith, differ (why u c k) 0 e) in
      let over : Run all start ev u (Over c k (No (why u c k))) = Meaning.refused under (every_call k) p in
      subst (λ (x : Answer). Run all start (Told c k x ∷ ev) u Quiet) (sym (same_answer a (No (why u c k)) t)) (Meaning.tells over tt))

  load_run : (s : State) (c v k x : ℕ) (es : List Event) → Run all start es s Quiet → T (has s c v) → T (eqb (s.word (frame_of s c v) k) x) → Run all start (Loaded c v k x ∷ es) s Quiet
  load_run s c v k x es r h e = subst (λ (y : ℕ). Run all start (Loaded c v k y ∷ es) s Quiet) (eqb→eq (s.word (frame_of s c v) k) x e) (Meaning.loads c v k r h)

  blank_run : (n : ℕ) (s : State) (c v : ℕ) (es : List Event) → Run all start es s Quiet → T (has s c v) → T (every n (λ (k : ℕ). eqb (s.word (frame_of s c v) k) 0)) → Run all start (loaded_all n c v ++ es) s Quiet
  unfolding loaded_all every
  blank_run zero s c v es r h t = r
  blank_run (suc n) s c v es r h t =
      let q = both (every n (λ (k : ℕ). eqb (s.word (frame_of s c v) k) 0)) (eqb (s.word (frame_of s c v) n) 0) t in
      load_run s c v n 0 (loaded_all n c v ++ es) (blank_run n s c v es r h q.0) h q.1

  -- every page of one's own that is looked at is noughts
  pages_run : (n : ℕ) (s : State) (c : ℕ) (es : List Event) → Run all start es s Quiet → T (every n (λ (v : ℕ). has s c v)) → T (not (any s.frames (λ (f : ℕ). is_whose c (s.what f) && not (blank (s.word f))))) → Run all start (loaded_pages n c ++ es) s Quiet
  unfolding loaded_pages every blank
  pages_run zero s c es r h t = r
  pages_run (suc n) s c es r h t =
      let q = both (every n (λ (v : ℕ). has s c v)) (has s c n) h in
      let g = Uses.found s c n q.1 in
      let f : ℕ = frame_of s c n in
      let b : T (blank (s.word f)) = ⊎_elim (λ (y : T (blank (s.word f))). y) (λ (y : T (not (blank (s.word f)))). absurd (any_none s.frames (λ (f : ℕ). is_whose c (s.what f) && not (blank (s.word f))) t f g.0 (pair (is_whose c (s.what f)) (not (blank (s.word f))) (whose c n (s.what f) g.1) y))) (decide (blank (s.word f))) in
      subst (λ (l : List Event). Run all start l s Quiet) (sym (append_assoc (loaded_all 512 c n) (loaded_pages n c) es)) (blank_run 512 s c n (loaded_pages n c ++ es) (pages_run n s c es r q.0 t) q.1 b)

  step_run : (pick : State → ℕ) (s : State) (x : Step) (es : List Event) → Run all start es s Quiet → T (played pick s x).fits → Run all start ((played pick s x).events ++ es) (played pick s x).state Quiet
  unfolding played
  step_run pick s (Asks c k ds a) es r t = call_run pick s c k ds a es r t
  step_run pick s (Stores c v k x) es r t = Meaning.stores c v k x r t
  step_run pick s (Loads c v k x) es r t = let q = both (has s c v) (eqb (s.word (frame_of s c v) k) x) t in load_run s c v k x es r q.0 q.1
  step_run pick s (Blank c n) es r t =
      let q = both (every n (λ (v : ℕ). has s c v)) (not (any s.frames (λ (f : ℕ). is_whose c (s.what f) && not (blank (s.word f))))) t in
      pages_run n s c es r q.0 q.1
  step_run pick s (Puts d p k x) es r t = let q = first_passes s.frames (λ (f : ℕ). reaches d p true (loan_of (s.what f))) t in Meaning.puts d p (found s d p true) k x r q.0 q.1
  step_run pick s (Takes d p k x) es r t =
      let b = both (finds s d p false) (eqb (s.word (found s d p false) k) x) t in
      let q = first_passes s.frames (λ (f : ℕ). reaches d p false (loan_of (s.what f))) b.0 in
      subst (λ (y : ℕ). Run all start (TookFrom d p (found s d p false) k y ∷ es) s Quiet) (eqb→eq (s.word (found s d p false) k) x b.1) (Meaning.took d p (found s d p false) k r q.0 q.1)
  step_run pick s (Misses d p w) es r t = Meaning.misses d p w r t
  step_run pick s AllIdle es r t = r

  row_run : (pick : State → ℕ) (row : List Step) (s : State) (es : List Event) → Run all start es s Quiet → T (plays pick s row) → (z : State) × Run all start (seen pick s row ++ es) z Quiet
  unfolding plays seen
  row_run pick [] s es r t = (s, r)
  row_run pick (x ∷ xs) s es r t =
      let q = both (played pick s x).fits (plays pick (played pick s x).state xs) t in
      let g = row_run pick xs (played pick s x).state ((played pick s x).events ++ es) (step_run pick s x es r q.0) q.1 in
      (g.0, subst (λ (l : List Event). Run all start l g.0 Quiet) (sym (append_assoc (seen pick (played pick s x).state xs) (played pick s x).events es)) g.1)

pub played_is_explained : PlayedIsExplained
played_is_explained pick start row t = let g = row_run start pick row start [] Meaning.begin t in (g.0, Quiet, subst (λ (l : List Event). Run all start l g.0 Quiet) (append-nil (seen pick start row)) g.1)
