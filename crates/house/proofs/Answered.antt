-- What an answer rests on. Assumes nothing.
use Rattle.std.proofs.Common.{◌≡◌, ℕ, ◌/◌, ◌<◌, Bool, true, false, cond, not, ◌&&◌, T, eqb, ltb, ◌⊎◌, List, [], ◌∷◌, sym, refl, ap, subst, ⊎_elim, arith, eqb→eq, lt→ltb, T_not}
use mathlib.Core.List.Memᴰ
use mathlib.Core.List.{Memᴰ}
use lib.Dec.{eqb_refl}
use Rattle.house.specs.declared.Call.{Call}
use Rattle.house.specs.declared.Call.TheVariants.{Get, Free, Give, Open, Close, Regs, Lend, Recall, End}
use Rattle.house.specs.declared.Answer.TheVariants.{Done, Later, No}
use Rattle.house.specs.Event.{Event, Asked, Told, Loaded, Stored, Faulted, Poked, TookFrom, PutInto, Missed, Drained}
use Rattle.house.specs.Meaning
use Rattle.house.specs.Meaning.{State, Use, Dev, is_in, owner_is, device_of, loan, all_drained, acts, out, is_later, may_tell, Run, Now, Quiet, Under, Over}
use Rattle.house.specs.Served.{drained_in, undrained_in, waits_for, RefusedIsUntouched, LaterIsExcused, DoneIsDrained}
use Rattle.house.proofs.Shelf.{pair, either, in_here}
use Rattle.house.proofs.Calls.{in_call, IsDone, IsLater}
use Rattle.house.proofs.ShutAll.{not_all_drained}
use Rattle.house.proofs.DeviceEvents.{drained_more}

abbrev pub JustTold : (Call → Bool) → State → List Event → State → Now → Type 0
JustTold can start [] s n = Unit {0}
JustTold can start (Asked c k ∷ es) s n = Unit {0}
JustTold can start (Told c k a ∷ es) s n = Run can start es s (Over c k a) × T (may_tell s c k a) × (n ≡ Quiet)
JustTold can start (Loaded c v k x ∷ es) s n = Unit {0}
JustTold can start (Stored c v k x ∷ es) s n = Unit {0}
JustTold can start (Faulted c v ∷ es) s n = Unit {0}
JustTold can start (Poked c v d ∷ es) s n = Unit {0}
JustTold can start (TookFrom d p f k x ∷ es) s n = Unit {0}
JustTold can start (PutInto d p f k x ∷ es) s n = Unit {0}
JustTold can start (Missed d p w ∷ es) s n = Unit {0}
JustTold can start (Drained d b ∷ es) s n = Unit {0}

-- while a call is served the latest event is no answer
still : (can : Call → Bool) (start : State) (es : List Event) (s t : State) (c : ℕ) (k : Call) (n : Now) → JustTold can start es s (Under c k) → JustTold can start es t n
still can start [] s t c k n h = tt
still can start (Asked _ _ ∷ es) s t c k n h = tt
still can start (Told _ _ _ ∷ es) s t c k n h = let e : Under c k ≡ Quiet = h.2 in let z : ◌≡◌ {A = ℕ} 0 1 = cc in absurd (omega arith)
still can start (Loaded _ _ _ _ ∷ es) s t c k n h = tt
still can start (Stored _ _ _ _ ∷ es) s t c k n h = tt
still can start (Faulted _ _ ∷ es) s t c k n h = tt
still can start (Poked _ _ _ ∷ es) s t c k n h = tt
still can start (TookFrom _ _ _ _ _ ∷ es) s t c k n h = tt
still can start (PutInto _ _ _ _ _ ∷ es) s t c k n h = tt
still can start (Missed _ _ _ ∷ es) s t c k n h = tt
still can start (Drained _ _ ∷ es) s t c k n h = tt

pub just_told : (can : Call → Bool) (start : State) {es : List Event} {s : State} {n : Now} → Run can start es s n → JustTold can start es s n
just_told can start Meaning.begin = tt
just_told can start (Meaning.asks c k r) = tt
just_told can start (Meaning.loosened {es = es} {s = s} {c = c} {k = k} r b w) = still can start es s (Meaning.loosens s c k) c k (Under c k) (just_told can start r)
just_told can start (Meaning.acted {es = es} {s = s} {c = c} {k = k} f r b w i x) = still can start es s (acts f s c k).state c k (Over c k (acts f s c k).answer) (just_told can start r)
just_told can start (Meaning.refused {es = es} {s = s} {c = c} {k = k} r b w) = still can start es s s c k (Over c k (No (Meaning.why s c k))) (just_told can start r)
just_told can start (Meaning.not_built {es = es} {s = s} {c = c} {k = k} r b) = still can start es s s c k (Over c k (No 9)) (just_told can start r)
just_told can start (Meaning.tells r m) = (r, m, refl)
just_told can start (Meaning.loads c v k r h) = tt
just_told can start (Meaning.stores c v k x r h) = tt
just_told can start (Meaning.pokes c v d r e) = tt
just_told can start (Meaning.faults c v r t) = tt
just_told can start (Meaning.took d p f k r l t) = tt
just_told can start (Meaning.puts d p f k x r l t) = tt
just_told can start (Meaning.misses d p w r t) = tt
just_told can start (Meaning.drains d b r) = tt

pub refused_is_untouched : RefusedIsUntouched
refused_is_untouched start every es s n c k reason r = let g = in_call every start (just_told every start r).0 in (g.began, g.outcome)

-- what was said of drains, as events
drain_came : (d : ℕ) (es : List Event) → T (is_in d (drained_in es)) → Memᴰ (Drained d true) es
unfolding is_in
drain_came d [] t = absurd t
drain_came d (Asked _ _ ∷ es) t = Memᴰ.tail (drain_came d es t)
drain_came d (Told _ _ _ ∷ es) t = Memᴰ.tail (drain_came d es t)
drain_came d (Loaded _ _ _ _ ∷ es) t = Memᴰ.tail (drain_came d es t)
drain_came d (Stored _ _ _ _ ∷ es) t = Memᴰ.tail (drain_came d es t)
drain_came d (Faulted _ _ ∷ es) t = Memᴰ.tail (drain_came d es t)
drain_came d (Poked _ _ _ ∷ es) t = Memᴰ.tail (drain_came d es t)
drain_came d (TookFrom _ _ _ _ _ ∷ es) t = Memᴰ.tail (drain_came d es t)
drain_came d (PutInto _ _ _ _ _ ∷ es) t = Memᴰ.tail (drain_came d es t)
drain_came d (Missed _ _ _ ∷ es) t = Memᴰ.tail (drain_came d es t)
drain_came d (Drained x false ∷ es) t = Memᴰ.tail (drain_came d es t)
drain_came d (Drained x true ∷ es) t =
    ⊎_elim (λ (e : T (eqb d x)). Memᴰ.head (ap (λ (y : ℕ). Drained y true) (eqb→eq d x e))) (λ (i : T (is_in d (drained_in es))). Memᴰ.tail (drain_came d es i)) (either (eqb d x) (is_in d (drained_in es)) t)

no_drain_came : (d : ℕ) (es : List Event) → T (is_in d (undrained_in es)) → Memᴰ (Drained d false) es
unfolding is_in
no_drain_came d [] t = absurd t
no_drain_came d (Asked _ _ ∷ es) t = Memᴰ.tail (no_drain_came d es t)
no_drain_came d (Told _ _ _ ∷ es) t = Memᴰ.tail (no_drain_came d es t)
no_drain_came d (Loaded _ _ _ _ ∷ es) t = Memᴰ.tail (no_drain_came d es t)
no_drain_came d (Stored _ _ _ _ ∷ es) t = Memᴰ.tail (no_drain_came d es t)
no_drain_came d (Faulted _ _ ∷ es) t = Memᴰ.tail (no_drain_came d es t)
no_drain_came d (Poked _ _ _ ∷ es) t = Memᴰ.tail (no_drain_came d es t)
no_drain_came d (TookFrom _ _ _ _ _ ∷ es) t = Memᴰ.tail (no_drain_came d es t)
no_drain_came d (PutInto _ _ _ _ _ ∷ es) t = Memᴰ.tail (no_drain_came d es t)
no_drain_came d (Missed _ _ _ ∷ es) t = Memᴰ.tail (no_drain_came d es t)
no_drain_came d (Drained x true ∷ es) t = Memᴰ.tail (no_drain_came d es t)
no_drain_came d (Drained x false ∷ es) t =
    ⊎_elim (λ (e : T (eqb d x)). Memᴰ.head (ap (λ (y : ℕ). Drained y false) (eqb→eq d x e))) (λ (i : T (is_in d (undrained_in es))). Memᴰ.tail (no_drain_came d es i)) (either (eqb d x) (is_in d (undrained_in es)) t)

drain_noted : (d : ℕ) (es : List Event) → Memᴰ (Drained d true) es → T (is_in d (drained_in es))
drain_noted d [] m = absurd (Memᴰ.not-nil m)
drain_noted d (e ∷ es) m =
    ⊎_elim (λ (is : Drained d true ≡ e). subst (λ (y : Event). T (is_in d (drained_in (y ∷ es)))) is (in_here d (drained_in es))) (λ (i : Memᴰ (Drained d true) es). drained_more e es d (drain_noted d es i)) (Memᴰ.cases_cons m)

-- it would come to later again
later_cond : (b : Bool) (x y : State) → T (is_later (cond b (out Done x) (out Later y)).answer) → T (not b)
unfolding is_later
later_cond true x y t = t
later_cond false x y t = tt

-- one of the devices that a call waits for was asked, and said nothing but no
Excuse : State → ℕ → Call → List Event → Type 0
Excuse t c k es = (d : ℕ) × T (waits_for t c k d) × T (is_in d (undrained_in es)) × T (not (is_in d (drained_in es)))

by_no : (d : ℕ) (es : List Event) (l : List ℕ) → l ≡ drained_in es → T (not (is_in d l)) → T (is_in d (drained_in es)) ⊎ T (is_in d (undrained_in es)) → T (is_in d (undrained_in es)) × T (not (is_in d (drained_in es)))
by_no d es l e n o =
    let m : T (not (is_in d (drained_in es))) = subst (λ (x : List ℕ). T (not (is_in d x))) e n in
    (⊎_elim (λ (y : T (is_in d (drained_in es))). absurd (T_not (is_in d (drained_in es)) m y)) (λ (y : T (is_in d (undrained_in es))). y) o, m)

excuse : (t s : State) (c : ℕ) (k : Call) (es : List Event) → s.drained ≡ drained_in es → T (is_later (acts 0 s c k).answer) → IsLater t c k (drained_in es) (undrained_in es) s.frames s.devices s.what s.dev → Excuse t c k es
unfolding acts is_later Excuse
excuse t s c (Get v) es q m o = absurd m
excuse t s c (Free v) es q m o = absurd m
excuse t s c (Give v to at) es q m o = absurd m
excuse t s c (Open d) es q m o = absurd m
excuse t s c (Close d) es q m o = let r = by_no d es s.drained q (later_cond (is_in d s.drained) _ _ m) o in (d, eqb_refl d, r.0, r.1)
excuse t s c (Regs d v) es q m o = absurd m
excuse t s c (Lend v d p w) es q m o = absurd (never (s.slots d (p / 512)) _ _ m)
  where
    never : (b : Bool) (x y : State) → T (is_later (cond b (out Done x) (out Done y)).answer) → ⊥
    never true x y n = n
    never false x y n = n
excuse t s c (Recall v) es q m o =
    let D : ℕ = device_of (loan t c v) in
    let z : T (not (is_in D s.drained)) = subst (λ (x : ℕ). T (not (is_in x s.drained))) o.1.2 (later_cond (is_in (device_of (loan s c v)) s.drained) _ _ m) in
    let r = by_no D es s.drained q z o.0 in
    (D, eqb_refl D, r.0, r.1)
excuse t s c (End w) es q m o =
    let a = not_all_drained s.devices w s (later_cond (all_drained s.devices w s) _ _ m) in
    let l : T (ltb a.0 t.devices) = lt→ltb a.0 t.devices (subst (λ (x : ℕ). a.0 < x) o.1 a.1) in
    let h : T (ltb a.0 t.devices && owner_is w (t.dev a.0)) = pair (ltb a.0 t.devices) (owner_is w (t.dev a.0)) l (o.2 a.0 a.2) in
    let r = by_no a.0 es s.drained q a.3 (o.0 a.0 h) in
    (a.0, h, r.0, r.1)

pub later_is_excused : LaterIsExcused
unfolding is_later Excuse
later_is_excused start every es s n c k r =
    let j = just_told every start r in
    let g = in_call every start j.0 in
    let x = excuse g.began.state s c k g.began.since g.drained j.1 g.outcome in
    (g.began, x.0, x.1, no_drain_came x.0 g.began.since x.2, λ i. T_not (is_in x.0 (drained_in g.began.since)) x.3 (drain_noted x.0 g.began.since i))

waited : (t : State) (c : ℕ) (k : Call) (es : List Event) (what : ℕ → Use) (dev : ℕ → Dev) → IsDone t c k (drained_in es) what dev → (d : ℕ) → T (waits_for t c k d) → T (is_in d (drained_in es))
waited t c (Get v) es what dev o d h = absurd h
waited t c (Free v) es what dev o d h = absurd h
waited t c (Give v to at) es what dev o d h = absurd h
waited t c (Open e) es what dev o d h = absurd h
waited t c (Close e) es what dev o d h = subst (λ (x : ℕ). T (is_in x (drained_in es))) (sym (eqb→eq d e h)) o.0
waited t c (Regs e v) es what dev o d h = absurd h
waited t c (Lend v e p w) es what dev o d h = absurd h
waited t c (Recall v) es what dev o d h = subst (λ (x : ℕ). T (is_in x (drained_in es))) (sym (eqb→eq d (device_of (loan t c v)) h)) o.0
waited t c (End w) es what dev o d h = (o d h).0

pub done_is_drained : DoneIsDrained
done_is_drained start every es s n c k r =
    let g = in_call every start (just_told every start r).0 in
    (g.began, λ d h. drain_came d g.began.since (waited g.began.state c k g.began.since s.what s.dev g.outcome d h))
