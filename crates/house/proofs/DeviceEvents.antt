-- What an event of a device does to a state, and what it leaves. Assumes nothing.
use Rattle.std.proofs.Common.{◌≡◌, ℕ, Bool, true, false, cond, ◌&&◌, T, eqb, ◌⊎◌, List, ◌∷◌, sym, refl, ap, subst}
use Rattle.house.specs.declared.Call.{Call}
use Rattle.house.specs.declared.Call.TheVariants.{Get, Free, Give, Open, Close, Regs, Lend, Recall, End}
use Rattle.house.specs.Event.{Event, Asked, Told, Loaded, Stored, Faulted, Poked, TookFrom, PutInto, Missed, Drained}
use Rattle.house.specs.Meaning
use Rattle.house.specs.Meaning.{Lent, Leaving, Use, Of, Dev, State, why, set_word, set_drains, any, is_in, Run, Now, told_drain}
use Rattle.house.specs.Served.{of_device, drained_in, undrained_in, after}
use Rattle.house.proofs.Shelf.{in_more}
use Rattle.house.proofs.Latest.{Seen, to_be_written}

-- what an event of a device does to the state
abbrev pub stepped : Event → State → State
stepped (Asked c k) s = s
stepped (Told c k a) s = s
stepped (Loaded c v k x) s = s
stepped (Stored c v k x) s = s
stepped (Faulted c v) s = s
stepped (Poked c v d) s = s
stepped (TookFrom d p f k x) s = s
stepped (PutInto d p f k x) s = set_word (λ e j. cond (eqb e f && eqb j k) x (s.word e j)) s
stepped (Missed d p w) s = s
stepped (Drained d b) s = told_drain d b s

-- nothing but words and drains is changed by it
pub stepped_view : (P : ℕ → ℕ → (ℕ → Use) → (ℕ → Dev) → Type 0) (e : Event) (s : State) → P s.frames s.devices s.what s.dev → P (stepped e s).frames (stepped e s).devices (stepped e s).what (stepped e s).dev
stepped_view P (Asked c k) s h = h
stepped_view P (Told c k a) s h = h
stepped_view P (Loaded c v k x) s h = h
stepped_view P (Stored c v k x) s h = h
stepped_view P (Faulted c v) s h = h
stepped_view P (Poked c v d) s h = h
stepped_view P (TookFrom d p f k x) s h = h
stepped_view P (PutInto d p f k x) s h = h
stepped_view P (Missed d p w) s h = h
stepped_view P (Drained d true) s h = h
stepped_view P (Drained d false) s h = h

pub same_why : (k : Call) (c : ℕ) (m : ℕ → ℕ → ℕ) (a b : List ℕ) (s : State) → why s c k ≡ 0 → why (set_drains a b (set_word m s)) c k ≡ 0
unfolding why
same_why (Get v) c m a b s e = e
same_why (Free v) c m a b s e = e
same_why (Give v to at) c m a b s e = e
same_why (Open d) c m a b s e = e
same_why (Close d) c m a b s e = e
same_why (Regs d v) c m a b s e = e
same_why (Lend v d p w) c m a b s e = e
same_why (Recall v) c m a b s e = e
same_why (End w) c m a b s e = e

pub stepped_why : (e : Event) (k : Call) (c : ℕ) (s : State) → why s c k ≡ 0 → why (stepped e s) c k ≡ 0
stepped_why (Asked _ _) k c s h = h
stepped_why (Told _ _ _) k c s h = h
stepped_why (Loaded _ _ _ _) k c s h = h
stepped_why (Stored _ _ _ _) k c s h = h
stepped_why (Faulted _ _) k c s h = h
stepped_why (Poked _ _ _) k c s h = h
stepped_why (TookFrom _ _ _ _ _) k c s h = h
stepped_why (PutInto d p f j x) k c s h = same_why k c (λ e i. cond (eqb e f && eqb i j) x (s.word e i)) s.drained s.undrained s h
stepped_why (Missed _ _ _) k c s h = h
stepped_why (Drained d true) k c s h = same_why k c s.word (d ∷ s.drained) s.undrained s h
stepped_why (Drained d false) k c s h = same_why k c s.word s.drained (d ∷ s.undrained) s h

pub stepped_after : (e : Event) → T (of_device e) → (es : List Event) (t : State) → stepped e (after es t) ≡ after (e ∷ es) t
stepped_after (Asked c k) o es t = absurd o
stepped_after (Told c k a) o es t = absurd o
stepped_after (Loaded c v k x) o es t = absurd o
stepped_after (Stored c v k x) o es t = absurd o
stepped_after (Faulted c v) o es t = absurd o
stepped_after (Poked c v d) o es t = absurd o
stepped_after (TookFrom d p f k x) o es t = refl
stepped_after (PutInto d p f k x) o es t = refl
stepped_after (Missed d p w) o es t = refl
stepped_after (Drained d true) o es t = refl
stepped_after (Drained d false) o es t = refl

pub stepped_drains : (e : Event) → T (of_device e) → (es : List Event) (s : State) → s.drained ≡ drained_in es → s.undrained ≡ undrained_in es → ((stepped e s).drained ≡ drained_in (e ∷ es)) × ((stepped e s).undrained ≡ undrained_in (e ∷ es))
stepped_drains (Asked c k) o es s p q = absurd o
stepped_drains (Told c k a) o es s p q = absurd o
stepped_drains (Loaded c v k x) o es s p q = absurd o
stepped_drains (Stored c v k x) o es s p q = absurd o
stepped_drains (Faulted c v) o es s p q = absurd o
stepped_drains (Poked c v d) o es s p q = absurd o
stepped_drains (TookFrom d p' f k x) o es s p q = (p, q)
stepped_drains (PutInto d p' f k x) o es s p q = (p, q)
stepped_drains (Missed d p' w) o es s p q = (p, q)
stepped_drains (Drained d true) o es s p q = (ap (λ (l : List ℕ). d ∷ l) p, q)
stepped_drains (Drained d false) o es s p q = (p, ap (λ (l : List ℕ). d ∷ l) q)

-- what was drained stays so
pub drained_more : (e : Event) (es : List Event) (x : ℕ) → T (is_in x (drained_in es)) → T (is_in x (drained_in (e ∷ es)))
drained_more (Asked _ _) es x t = t
drained_more (Told _ _ _) es x t = t
drained_more (Loaded _ _ _ _) es x t = t
drained_more (Stored _ _ _ _) es x t = t
drained_more (Faulted _ _) es x t = t
drained_more (Poked _ _ _) es x t = t
drained_more (TookFrom _ _ _ _ _) es x t = t
drained_more (PutInto _ _ _ _ _) es x t = t
drained_more (Missed _ _ _) es x t = t
drained_more (Drained d true) es x t = in_more x d (drained_in es) t
drained_more (Drained d false) es x t = t

pub undrained_more : (e : Event) (es : List Event) (x : ℕ) → T (is_in x (undrained_in es)) → T (is_in x (undrained_in (e ∷ es)))
undrained_more (Asked _ _) es x t = t
undrained_more (Told _ _ _) es x t = t
undrained_more (Loaded _ _ _ _) es x t = t
undrained_more (Stored _ _ _ _) es x t = t
undrained_more (Faulted _ _) es x t = t
undrained_more (Poked _ _ _) es x t = t
undrained_more (TookFrom _ _ _ _ _) es x t = t
undrained_more (PutInto _ _ _ _ _) es x t = t
undrained_more (Missed _ _ _) es x t = t
undrained_more (Drained d true) es x t = t
undrained_more (Drained d false) es x t = in_more x d (undrained_in es) t

-- the meaning of a device's event again, at the same state and any moment
pub replayed : (can : Call → Bool) (start : State) (es : List Event) (e : Event) → T (of_device e) → (s : State) (m n : Now) → Seen s m e → Run can start es s n → Run can start (e ∷ es) (stepped e s) n
replayed can start es (Asked c k) o s m n h r = absurd o
replayed can start es (Told c k a) o s m n h r = absurd o
replayed can start es (Loaded c v k x) o s m n h r = absurd o
replayed can start es (Stored c v k x) o s m n h r = absurd o
replayed can start es (Faulted c v) o s m n h r = absurd o
replayed can start es (Poked c v d) o s m n h r = absurd o
replayed can start es (TookFrom d p f k x) o s m n h r = subst (λ (y : ℕ). Run can start (TookFrom d p f k y ∷ es) s n) (sym h.2) (Meaning.took d p f k r h.0 h.1)
replayed can start es (PutInto d p f k x) o s m n h r = Meaning.puts d p f k x r h.0 h.1
replayed can start es (Missed d p w) o s m n h r = Meaning.misses d p w r h
replayed can start es (Drained d b) o s m n h r = Meaning.drains d b r

-- a device's write is to what was lent to be written
pub wrote : (t : State) (m : Now) (e : Event) → Seen t m e → (d p f j x : ℕ) → PutInto d p f j x ≡ e → (w : ℕ) × (v : ℕ) × ((t.what f ≡ Of w v (Lent d p true)) ⊎ (t.what f ≡ Of w v (Leaving d p true)))
wrote t m e h d p f j x is = let g : Seen t m (PutInto d p f j x) = subst (Seen t m) (sym is) h in to_be_written d p (t.what f) g.1
