-- The latest event of an explained row, and the state at which it happened. Assumes nothing.
use Rattle.std.proofs.Common.{◌≡◌, ℕ, suc, ◌<◌, Bool, true, false, not, ◌&&◌, ◌||◌, T, eqb, ◌⊎◌, List, [], ◌∷◌, refl, subst, inl, inr, eqb→eq}
use Rattle.house.specs.declared.Call.{Call}
use Rattle.house.specs.Event.{Event, Asked, Told, Loaded, Stored, Faulted, Poked, TookFrom, PutInto, Missed, Drained}
use Rattle.house.specs.Meaning
use Rattle.house.specs.Meaning.{Home, Lent, Leaving, Use, House, TableOf, Idle, Of, State, loan_of, is_lent, reaches, has, frame_of, taken, any, may_tell, Run, Now, Quiet, Over}
use Rattle.house.proofs.Shelf.{both}

-- what the meaning asks of an event, at the state and the moment before it
abbrev pub Seen : State → Now → Event → Type 0
Seen t m (Asked c k) = m ≡ Quiet
Seen t m (Told c k a) = (m ≡ Over c k a) × T (may_tell t c k a)
Seen t m (Loaded c v k x) = (m ≡ Quiet) × T (has t c v) × (x ≡ t.word (frame_of t c v) k)
Seen t m (Stored c v k x) = (m ≡ Quiet) × T (has t c v)
Seen t m (Faulted c v) = (m ≡ Quiet) × T (not (taken t c v))
Seen t m (Poked c v d) = (m ≡ Quiet) × (t.regs c v ≡ suc d)
Seen t m (TookFrom d p f k x) = (f < t.frames) × T (reaches d p false (loan_of (t.what f))) × (x ≡ t.word f k)
Seen t m (PutInto d p f k x) = (f < t.frames) × T (reaches d p true (loan_of (t.what f)))
Seen t m (Missed d p w) = T (not (any t.frames (λ (f : ℕ). is_lent d p w (loan_of (t.what f)))))
Seen t m (Drained d b) = Unit {0}

abbrev pub Before : (Call → Bool) → State → List Event → Type 0
Before can start [] = Unit {0}
Before can start (e ∷ es) = (t : State) × (m : Now) × Run can start es t m × Seen t m e

pub latest : (can : Call → Bool) (start : State) {es : List Event} {s : State} {n : Now} → Run can start es s n → Before can start es
latest can start Meaning.begin = tt
latest can start (Meaning.asks {s = s} c k r) = (s, Quiet, r, refl)
latest can start (Meaning.loosened r b w) = latest can start r
latest can start (Meaning.acted f r b w i x) = latest can start r
latest can start (Meaning.refused r b w) = latest can start r
latest can start (Meaning.not_built r b) = latest can start r
latest can start (Meaning.tells {s = s} {c = c} {k = k} {a = a} r m) = (s, Over c k a, r, (refl, m))
latest can start (Meaning.loads {s = s} c v k r h) = (s, Quiet, r, (refl, h, refl))
latest can start (Meaning.stores {s = s} c v k x r h) = (s, Quiet, r, (refl, h))
latest can start (Meaning.pokes {s = s} c v d r e) = (s, Quiet, r, (refl, e))
latest can start (Meaning.faults {s = s} c v r t) = (s, Quiet, r, (refl, t))
latest can start (Meaning.took {s = s} {n = n} d p f k r l t) = (s, n, r, (l, t, refl))
latest can start (Meaning.puts {s = s} {n = n} d p f k x r l t) = (s, n, r, (l, t))
latest can start (Meaning.misses {s = s} {n = n} d p w r t) = (s, n, r, t)
latest can start (Meaning.drains {s = s} {n = n} d b r) = (s, n, r, tt)

-- what can be reached is lent there, or on its way back from there
pub reached : (d p : ℕ) (w : Bool) (u : Use) → T (reaches d p w (loan_of u)) → (c : ℕ) × (v : ℕ) × (x : Bool) × ((u ≡ Of c v (Lent d p x)) ⊎ (u ≡ Of c v (Leaving d p x))) × T (x || not w)
unfolding reaches loan_of
reached d p w House t = absurd t
reached d p w (TableOf e) t = absurd t
reached d p w Idle t = absurd t
reached d p w (Of c v Home) t = absurd t
reached d p w (Of c v (Lent e q x)) t =
    let r = both (eqb d e && eqb p q) (x || not w) t in
    let h = both (eqb d e) (eqb p q) r.0 in
    let e1 : d ≡ e = eqb→eq d e h.0 in
    let e2 : p ≡ q = eqb→eq p q h.1 in
    (c, v, x, inl cc, r.1)
reached d p w (Of c v (Leaving e q x)) t =
    let r = both (eqb d e && eqb p q) (x || not w) t in
    let h = both (eqb d e) (eqb p q) r.0 in
    let e1 : d ≡ e = eqb→eq d e h.0 in
    let e2 : p ≡ q = eqb→eq p q h.1 in
    (c, v, x, inr cc, r.1)

to_write : (x : Bool) → T (x || not true) → x ≡ true
to_write true t = refl
to_write false t = absurd t

-- and what can be written was lent to be written
pub to_be_written : (d p : ℕ) (u : Use) → T (reaches d p true (loan_of u)) → (c : ℕ) × (v : ℕ) × ((u ≡ Of c v (Lent d p true)) ⊎ (u ≡ Of c v (Leaving d p true)))
to_be_written d p u t = let q = reached d p true u t in (q.0, q.1, subst (λ (w : Bool). (u ≡ Of q.0 q.1 (Lent d p w)) ⊎ (u ≡ Of q.0 q.1 (Leaving d p w))) (to_write q.2 q.4) q.3)
