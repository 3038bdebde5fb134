-- After an answer: the rest of a row is a row from the state that was then. What was given back is not touched. Assumes nothing.
use Rattle.std.proofs.Common.{◌≡◌, ℕ, ◌/◌, Bool, true, false, cond, not, ◌&&◌, ◌||◌, T, eqb, leb, ◌⊎◌, List, [], ◌∷◌, ◌++◌, sym, refl, ap, ◌∙◌, subst, inl, inr, ⊎_elim, eqb→eq, T_not}
use mathlib.Core.List.{head-eq_of_cons-eq, tail-eq_of_cons-eq, nil≢cons}
use lib.Dec.{eqb_refl}
use Rattle.house.specs.declared.Call.{Call}
use Rattle.house.specs.declared.Call.TheVariants.{Get, Free, Give, Open, Close, Regs, Lend, Recall, End}
use Rattle.house.specs.declared.Answer.{Answer}
use Rattle.house.specs.declared.Answer.TheVariants.{No}
use Rattle.house.specs.Event.{Event, Asked, Told, Loaded, Stored, Faulted, Poked, TookFrom, PutInto, Missed, Drained}
use Rattle.house.specs.Meaning
use Rattle.house.specs.Meaning.{Loan, Home, Lent, Leaving, Use, TableOf, Idle, Of, Dev, Shut, Opened, State, is_of, loan_of, is_home, is_at, reaches, owner_is, open_by, is_shut, has, frame_of, loan, used, why, leaving, map_loan, shut_all, set_drains, use_at, acts, loosens, any, is_in, device_of, all_drained, Out, Run, Now, Quiet, Under, Over, told_drain}
use Rattle.house.specs.Gone.{touches, opens, LentSince}
use Rattle.house.proofs.Shelf.{both, pair, not_not, decide, choose, at_one, passes, same_number, differ}
use Rattle.house.proofs.MeaningUses.{page_of, found, found_is, open_owns, shut_unowned, shut_is, closing_shut, Fewer, same_use, fewer_then, leaving_at, map_fewer, shut_fewer, shutting_fewer, not_of_fewer, through_shut_all}
use Rattle.house.proofs.Good.{noted}
use Rattle.house.proofs.Latest.{Seen, reached}
use Rattle.house.proofs.Stays.{recall_passes}
use Rattle.house.proofs.Calls.{more_either}

-- the latest of a row is an answer
is_told : Event → Bool
is_told (Asked c k) = false
is_told (Told c k a) = true
is_told (Loaded c v k x) = false
is_told (Stored c v k x) = false
is_told (Faulted c v) = false
is_told (Poked c v d) = false
is_told (TookFrom d p f k x) = false
is_told (PutInto d p f k x) = false
is_told (Missed d p w) = false
is_told (Drained d b) = false

module _ (can : Call → Bool) (start : State) (c : ℕ) (k : Call) (a : Answer) (es : List Event) where
  abbrev pub base : List Event
  base = Told c k a ∷ es

  abbrev pub Rest : List Event → State → Now → Type 0
  Rest later s n = (t : State) × Run can start base t Quiet × Run can t later s n

  abbrev pub Splits : List Event → State → Now → Type 0
  Splits all s n = (later : List Event) → all ≡ later ++ base → Rest later s n

  -- an event that is no answer is one more of the rest
  one_more : (e : Event) (old : List Event) (s s' : State) (n n' : Now) → T (not (is_told e)) → Splits old s n → ((t : State) (later : List Event) → Run can t later s n → Run can t (e ∷ later) s' n') → Splits (e ∷ old) s' n'
  unfolding is_told
  one_more e old s s' n n' o h step [] q = absurd (T_not (is_told e) o (subst (λ (x : Event). T (is_told x)) (sym (head-eq_of_cons-eq q)) tt))
  one_more e old s s' n n' o h step (x ∷ later) q =
      let r = h later (tail-eq_of_cons-eq q) in
      (r.0, r.1, subst (λ (y : Event). Run can r.0 (y ∷ later) s' n') (head-eq_of_cons-eq q) (step r.0 later r.2))

  answer_more : (c' : ℕ) (k' : Call) (a' : Answer) (old : List Event) (s : State) → T (Meaning.may_tell s c' k' a') → Run can start old s (Over c' k' a') → Splits old s (Over c' k' a') → Splits (Told c' k' a' ∷ old) s Quiet
  answer_more c' k' a' old s m r h [] q = (s, subst (λ (l : List Event). Run can start l s Quiet) q (Meaning.tells r m), Meaning.begin)
  answer_more c' k' a' old s m r h (x ∷ later) q =
      let z = h later (tail-eq_of_cons-eq q) in
      (z.0, z.1, subst (λ (y : Event). Run can z.0 (y ∷ later) s Quiet) (head-eq_of_cons-eq q) (Meaning.tells z.2 m))

  none_yet : Splits [] start Quiet
  none_yet [] q = absurd (nil≢cons q)
  none_yet (x ∷ later) q = absurd (nil≢cons q)

  pub splits : {all : List Event} {s : State} {n : Now} → Run can start all s n → Splits all s n
  unfolding is_told
  splits Meaning.begin = none_yet
  splits (Meaning.asks {es = old} {s = s} w j r) = one_more (Asked w j) old s (set_drains [] [] s) Quiet (Under w j) tt (splits r) (λ t l z. Meaning.asks w j z)
  splits (Meaning.loosened r b w) = λ later q. let z = splits r later q in (z.0, z.1, Meaning.loosened z.2 b w)
  splits (Meaning.acted f r b w i x) = λ later q. let z = splits r later q in (z.0, z.1, Meaning.acted f z.2 b w i x)
  splits (Meaning.refused r b w) = λ later q. let z = splits r later q in (z.0, z.1, Meaning.refused z.2 b w)
  splits (Meaning.not_built r b) = λ later q. let z = splits r later q in (z.0, z.1, Meaning.not_built z.2 b)
  splits (Meaning.tells {es = old} {s = s} {c = w} {k = j} {a = x} r m) = answer_more w j x old s m r (splits r)
  splits (Meaning.loads {es = old} {s = s} w v j r h) = one_more (Loaded w v j (s.word (frame_of s w v) j)) old s s Quiet Quiet tt (splits r) (λ t l z. Meaning.loads w v j z h)
  splits (Meaning.stores {es = old} {s = s} w v j x r h) = one_more (Stored w v j x) old s _ Quiet Quiet tt (splits r) (λ t l z. Meaning.stores w v j x z h)
  splits (Meaning.pokes {es = old} {s = s} w v d r e) = one_more (Poked w v d) old s s Quiet Quiet tt (splits r) (λ t l z. Meaning.pokes w v d z e)
  splits (Meaning.faults {es = old} {s = s} w v r h) = one_more (Faulted w v) old s s Quiet Quiet tt (splits r) (λ t l z. Meaning.faults w v z h)
  splits (Meaning.took {es = old} {s = s} {n = n} d p f j r l h) = one_more (TookFrom d p f j (s.word f j)) old s s n n tt (splits r) (λ t m z. Meaning.took d p f j z l h)
  splits (Meaning.puts {es = old} {s = s} {n = n} d p f j x r l h) = one_more (PutInto d p f j x) old s _ n n tt (splits r) (λ t m z. Meaning.puts d p f j x z l h)
  splits (Meaning.misses {es = old} {s = s} {n = n} d p w r h) = one_more (Missed d p w) old s s n n tt (splits r) (λ t m z. Meaning.misses d p w z h)
  splits (Meaning.drains {es = old} {s = s} {n = n} d b r) = one_more (Drained d b) old s (told_drain d b s) n n tt (splits r) (λ t m z. Meaning.drains d b z)

-- and the two are one row again
pub joined : (can : Call → Bool) (start t : State) (old : List Event) → Run can start old t Quiet → {later : List Event} {s : State} {n : Now} → Run can t later s n → Run can start (later ++ old) s n
joined can start t old r0 Meaning.begin = r0
joined can start t old r0 (Meaning.asks w j r) = Meaning.asks w j (joined can start t old r0 r)
joined can start t old r0 (Meaning.loosened r b w) = Meaning.loosened (joined can start t old r0 r) b w
joined can start t old r0 (Meaning.acted f r b w i x) = Meaning.acted f (joined can start t old r0 r) b w i x
joined can start t old r0 (Meaning.refused r b w) = Meaning.refused (joined can start t old r0 r) b w
joined can start t old r0 (Meaning.not_built r b) = Meaning.not_built (joined can start t old r0 r) b
joined can start t old r0 (Meaning.tells r m) = Meaning.tells (joined can start t old r0 r) m
joined can start t old r0 (Meaning.loads w v j r h) = Meaning.loads w v j (joined can start t old r0 r) h
joined can start t old r0 (Meaning.stores w v j x r h) = Meaning.stores w v j x (joined can start t old r0 r) h
joined can start t old r0 (Meaning.pokes w v d r e) = Meaning.pokes w v d (joined can start t old r0 r) e
joined can start t old r0 (Meaning.faults w v r h) = Meaning.faults w v (joined can start t old r0 r) h
joined can start t old r0 (Meaning.took d p f j r l h) = Meaning.took d p f j (joined can start t old r0 r) l h
joined can start t old r0 (Meaning.puts d p f j x r l h) = Meaning.puts d p f j x (joined can start t old r0 r) l h
joined can start t old r0 (Meaning.misses d p w r h) = Meaning.misses d p w (joined can start t old r0 r) h
joined can start t old r0 (Meaning.drains d b r) = Meaning.drains d b (joined can start t old r0 r)

pub leaves_fewer : (s : State) (c v f : ℕ) → T (has s c v) → Fewer (s.what f) (use_at (frame_of s c v) (Of c v (leaving (loan s c v))) s.what f)
unfolding map_loan
leaves_fewer s c v f h =
    at_one (Fewer (s.what f)) f (frame_of s c v) (Of c v (leaving (loan s c v))) (s.what f)
    (λ e. subst (λ (u : Use). Fewer u (Of c v (leaving (loan s c v)))) (sym (found_is s c v h) ∙ ap s.what (sym e)) (map_fewer leaving leaving_at (Of c v (loan s c v)))) (λ _. same_use (s.what f))

-- what a call may let go before it takes effect
pub loosens_fewer : (k : Call) (s : State) (c f : ℕ) → why s c k ≡ 0 → Fewer (s.what f) ((loosens s c k).what f)
unfolding loosens
loosens_fewer (Get v) s c f e = same_use (s.what f)
loosens_fewer (Free v) s c f e = same_use (s.what f)
loosens_fewer (Give v to at) s c f e = same_use (s.what f)
loosens_fewer (Open d) s c f e = same_use (s.what f)
loosens_fewer (Close d) s c f e = shutting_fewer d (s.what f)
loosens_fewer (Regs d v) s c f e = same_use (s.what f)
loosens_fewer (Lend v d p w) s c f e = same_use (s.what f)
loosens_fewer (Recall v) s c f e = leaves_fewer s c v f (recall_passes s c v e).0
loosens_fewer (End w) s c f e =
    let t : Loan → Bool = λ l. any s.devices (λ (d : ℕ). owner_is w (s.dev d) && eqb d (device_of l)) in
    map_fewer (λ l. cond (t l) (leaving l) l) (λ l e p. choose (λ (x : Loan). T (is_at e p x) → T (is_at e p l)) (t l) (leaving l) l (λ _. leaving_at l e p) (λ _ q. q)) (s.what f)

loosens_dev : (k : Call) (s : State) (c : ℕ) → (loosens s c k).dev ≡ s.dev
unfolding loosens
loosens_dev (Get v) s c = refl
loosens_dev (Free v) s c = refl
loosens_dev (Give v to at) s c = refl
loosens_dev (Open d) s c = refl
loosens_dev (Close d) s c = refl
loosens_dev (Regs d v) s c = refl
loosens_dev (Lend v d p w) s c = refl
loosens_dev (Recall v) s c = refl
loosens_dev (End w) s c = refl

-- a call that would lend the frame's page to the device
unfoldable pub lends_it : ℕ → ℕ → Call → Use → Bool
lends_it d c (Get v) u = false
lends_it d c (Free v) u = false
lends_it d c (Give v to at) u = false
lends_it d c (Open e) u = false
lends_it d c (Close e) u = false
lends_it d c (Regs e v) u = false
lends_it d c (Lend v e p w) u = eqb e d && is_of c v u
lends_it d c (Recall v) u = false
lends_it d c (End w) u = false

abbrev pub NotLending : ℕ → Use → Now → Type 0
NotLending d u Quiet = Unit {0}
NotLending d u (Under c k) = T (not (lends_it d c k u))
NotLending d u (Over c k a) = Unit {0}

abbrev pub NotOpening : ℕ → Now → Type 0
NotOpening d Quiet = Unit {0}
NotOpening d (Under c k) = T (not (opens d k))
NotOpening d (Over c k a) = Unit {0}

loosens_not_lending : (d : ℕ) (k : Call) (s : State) (c f : ℕ) → T (not (lends_it d c k (s.what f))) → T (not (lends_it d c k ((loosens s c k).what f)))
unfolding lends_it loosens
loosens_not_lending d (Get v) s c f h = tt
loosens_not_lending d (Free v) s c f h = tt
loosens_not_lending d (Give v to at) s c f h = tt
loosens_not_lending d (Open e) s c f h = tt
loosens_not_lending d (Close e) s c f h = tt
loosens_not_lending d (Regs e v) s c f h = tt
loosens_not_lending d (Lend v e p w) s c f h = h
loosens_not_lending d (Recall v) s c f h = tt
loosens_not_lending d (End w) s c f h = tt

pub all_fewer : (n w : ℕ) (s : State) (f : ℕ) → Fewer (s.what f) ((shut_all n w s).what f)
all_fewer n w s f =
    through_shut_all (λ (t : State). Fewer (s.what f) (t.what f)) (λ d t h. fewer_then (s.what f) (t.what f) _ h (shut_fewer d (t.what f))) (λ d t h. fewer_then (s.what f) (t.what f) _ h (shutting_fewer d (t.what f))) n w s (same_use (s.what f))

lent_at : (d f : ℕ) (s : State) (c v x q : ℕ) (w : Bool) → T (has s c v) → T (open_by c (s.dev x)) → T (not (lends_it d c (Lend v x q w) (s.what f))) ⊎ T (is_shut (s.dev d)) → (p : ℕ) →
    T (is_at d p (loan_of (use_at (frame_of s c v) (Of c v (Lent x q w)) s.what f))) → T (is_at d p (loan_of (s.what f)))
unfolding is_at loan_of lends_it
lent_at d f s c v x q w h own o p =
    at_one (λ (u : Use). T (is_at d p (loan_of u)) → T (is_at d p (loan_of (s.what f)))) f (frame_of s c v) (Of c v (Lent x q w)) (s.what f)
    (λ e t. let z : d ≡ x = eqb→eq d x (both (eqb d x) (eqb p q) t).0 in
    absurd (⊎_elim
    (λ (n : T (not (eqb x d && is_of c v (s.what f)))). T_not (eqb x d && is_of c v (s.what f)) n (pair (eqb x d) (is_of c v (s.what f)) (same_number x d (sym z)) (subst (λ (y : ℕ). T (is_of c v (s.what y))) (sym e) (found s c v h).1)))
    (λ (n : T (is_shut (s.dev d))). shut_unowned (s.dev d) c n (open_owns (s.dev d) c (subst (λ (y : ℕ). T (open_by c (s.dev y))) (sym z) own)))
    o))
    (λ _ t. t)

-- a call other than that one makes nothing new be found at the device's pages
module _ (d f : ℕ) (s : State) (c : ℕ) where
  abbrev At : Use → Type 0
  At u = (p : ℕ) → T (is_at d p (loan_of u)) → T (is_at d p (loan_of (s.what f)))

  at_table : (e : ℕ) → At (TableOf e)
  unfolding is_at loan_of
  at_table e p t = absurd t

  at_idle : At Idle
  unfolding is_at loan_of
  at_idle p t = absurd t

  at_home : (b v : ℕ) → At (Of b v Home)
  unfolding is_at loan_of
  at_home b v p t = absurd t

  new_at : (k : Call) (g : ℕ) → why s c k ≡ 0 → T (not (lends_it d c k (s.what f))) ⊎ T (is_shut (s.dev d)) → At ((acts g s c k).state.what f)
  unfolding acts why
  new_at (Get v) g e o = at_one At f g (Of c v Home) (s.what f) (λ _. at_home c v) (λ _ p t. t)
  new_at (Free v) g e o = at_one At f (frame_of s c v) Idle (s.what f) (λ _. at_idle) (λ _ p t. t)
  new_at (Give v to at) g e o = at_one At f (frame_of s c v) (Of to at Home) (s.what f) (λ _. at_home to at) (λ _ p t. t)
  new_at (Open x) g e o = at_one At f g (TableOf x) (s.what f) (λ _. at_table x) (λ _ p t. t)
  new_at (Close x) g e o = choose (λ (y : Out). At (y.state.what f)) (is_in x s.drained) _ _ (λ _ p t. (shut_fewer x (s.what f)).lent d p t) (λ _ p t. (shutting_fewer x (s.what f)).lent d p t)
  new_at (Regs x v) g e o = λ p t. t
  new_at (Lend v x q w) g e o =
      let r1 = (passes (leb 1024 v || leb s.devices x || leb 262144 q) 0 _ e).1 in
      let r2 = passes (not (has s c v)) 1 _ r1 in
      let r4 = passes (not (is_home (loan s c v))) 3 _ (passes (used s x q) 2 _ r2.1).1 in
      let r5 = passes (not (open_by c (s.dev x))) 4 _ r4.1 in
      let lent : At (use_at (frame_of s c v) (Of c v (Lent x q w)) s.what f) = lent_at d f s c v x q w (not_not (has s c v) r2.0) (not_not (open_by c (s.dev x)) r5.0) o in
      choose (λ (y : Out). At (y.state.what f)) (s.slots x (q / 512)) _ _ (λ _. lent) (λ _. at_one At f g (TableOf x) _ (λ _. at_table x) (λ _. lent))
  new_at (Recall v) g e o =
      choose (λ (y : Out). At (y.state.what f)) (is_in (device_of (loan s c v)) s.drained) _ _
      (λ _. at_one At f (frame_of s c v) (Of c v Home) (s.what f) (λ _. at_home c v) (λ _ p t. t))
      (λ _ p t. (leaves_fewer s c v f (recall_passes s c v e).0).lent d p t)
  new_at (End w) g e o =
      choose (λ (y : Out). At (y.state.what f)) (all_drained s.devices w s) _ _
      (λ _ p t. (all_fewer s.devices w s f).lent d p ((not_of_fewer w ((shut_all s.devices w s).what f)).lent d p t))
      (λ _ p t. (all_fewer s.devices w s f).lent d p t)

still_shut : (d : ℕ) (k : Call) (g : ℕ) (s : State) (c : ℕ) → T (not (opens d k)) → T (is_shut (s.dev d)) → T (is_shut ((acts g s c k).state.dev d))
unfolding acts
still_shut d (Get v) g s c o h = h
still_shut d (Free v) g s c o h = h
still_shut d (Give v to at) g s c o h = h
still_shut d (Open e) g s c o h = at_one (λ (x : Dev). T (is_shut x)) d e (Opened c) (s.dev d) (λ q. absurd (differ e d o (sym q))) (λ _. h)
still_shut d (Close e) g s c o h =
    choose (λ (y : Out). T (is_shut (y.state.dev d))) (is_in e s.drained) _ _ (λ _. choose (λ (x : Dev). T (is_shut x)) (eqb d e) Shut (s.dev d) (λ _. shut_is) (λ _. h))
    (λ _. choose (λ (x : Dev). T (is_shut x)) (eqb d e) (Meaning.closing (s.dev d)) (s.dev d) (λ _. closing_shut (s.dev d) h) (λ _. h))
still_shut d (Regs e v) g s c o h = h
still_shut d (Lend v e p w) g s c o h = choose (λ (y : Out). T (is_shut (y.state.dev d))) (s.slots e (p / 512)) _ _ (λ _. h) (λ _. h)
still_shut d (Recall v) g s c o h = choose (λ (y : Out). T (is_shut (y.state.dev d))) (is_in (device_of (loan s c v)) s.drained) _ _ (λ _. h) (λ _. h)
still_shut d (End w) g s c o h =
    let r : T (is_shut ((shut_all s.devices w s).dev d)) =
    through_shut_all (λ (t : State). T (is_shut (t.dev d))) (λ e t z. choose (λ (x : Dev). T (is_shut x)) (eqb d e) Shut (t.dev d) (λ _. shut_is) (λ _. z)) (λ e t z. choose (λ (x : Dev). T (is_shut x)) (eqb d e) (Meaning.closing (t.dev d)) (t.dev d) (λ _. closing_shut (t.dev d) z) (λ _. z)) s.devices w s h in
    choose (λ (y : Out). T (is_shut (y.state.dev d))) (all_drained s.devices w s) _ _ (λ _. r) (λ _. r)

opens_lends : (d c : ℕ) (k : Call) (u : Use) → T (opens d k) → T (not (lends_it d c k u))
unfolding lends_it
opens_lends d c (Get v) u y = absurd y
opens_lends d c (Free v) u y = absurd y
opens_lends d c (Give v to at) u y = absurd y
opens_lends d c (Open e) u y = tt
opens_lends d c (Close e) u y = absurd y
opens_lends d c (Regs e v) u y = absurd y
opens_lends d c (Lend v e p w) u y = absurd y
opens_lends d c (Recall v) u y = absurd y
opens_lends d c (End w) u y = absurd y

reach_at : (d f : ℕ) (s : State) (e p g : ℕ) (w : Bool) → T (reaches e p w (loan_of (s.what g))) → T (eqb e d) × T (eqb g f) → ((p : ℕ) → T (is_at d p (loan_of (s.what f))) → ⊥) → ⊥
unfolding is_at loan_of
reach_at d f s e p g w h o z =
    let q = reached e p w (s.what g) h in
    let e1 : e ≡ d = eqb→eq e d o.0 in
    let e2 : g ≡ f = eqb→eq g f o.1 in
    let here : T (is_at e p (loan_of (s.what g))) = ⊎_elim (λ (y : s.what g ≡ Of q.0 q.1 (Lent e p q.2)). subst (λ (u : Use). T (is_at e p (loan_of u))) (sym y) (pair (eqb e e) (eqb p p) (eqb_refl e) (eqb_refl p)))
    (λ (y : s.what g ≡ Of q.0 q.1 (Leaving e p q.2)). subst (λ (u : Use). T (is_at e p (loan_of u))) (sym y) (pair (eqb e e) (eqb p p) (eqb_refl e) (eqb_refl p))) q.3 in
    z p (subst (λ (x : ℕ). T (is_at x p (loan_of (s.what f)))) e1 (subst (λ (x : ℕ). T (is_at e p (loan_of (s.what x)))) e2 here))

touch_at : (d f : ℕ) (s : State) (n : Now) (e : Event) → Seen s n e → T (touches d f e) → ((p : ℕ) → T (is_at d p (loan_of (s.what f))) → ⊥) → ⊥
touch_at d f s n (Asked c k) q o z = o
touch_at d f s n (Told c k a) q o z = o
touch_at d f s n (Loaded c v k x) q o z = o
touch_at d f s n (Stored c v k x) q o z = o
touch_at d f s n (Faulted c v) q o z = o
touch_at d f s n (Poked c v e) q o z = o
touch_at d f s n (TookFrom e p g k x) q o z = reach_at d f s e p g false q.1 (both (eqb e d) (eqb g f) o) z
touch_at d f s n (PutInto e p g k x) q o z = reach_at d f s e p g true q.1 (both (eqb e d) (eqb g f) o) z
touch_at d f s n (Missed e p w) q o z = o
touch_at d f s n (Drained e b) q o z = o

-- from a state on at which the frame is not found at any page of the device: it is lent again before it is
module _ (can : Call → Bool) (start : State) (before : List Event) (t : State) (r0 : Run can start before t Quiet) (first : List Event → Bool) (d f : ℕ) (first_more : (e : Event) (es : List Event) → T (first es) → T (first (e ∷ es)))
    (first_opened : (c : ℕ) (k : Call) (es : List Event) → T (opens d k) → T (first (Asked c k ∷ es))) where
  abbrev pub Again : List Event → Type 0
  Again later = LentSince can start first d f before later

  abbrev pub Safe : List Event → (ℕ → Use) → (ℕ → Dev) → Now → Type 0
  Safe later what dev n = Again later ⊎ (((p : ℕ) → T (is_at d p (loan_of (what f))) → ⊥) × ((T (first later) × NotLending d (what f) n) ⊎ (T (is_shut (dev d)) × NotOpening d n)))

  again_more : (e : Event) (later : List Event) → Again later → Again (e ∷ later)
  again_more e later g =
      record { who = g.who; at = g.at; page = g.page; writes = g.writes; later = e ∷ g.later; earlier = g.earlier; state = g.state; held = g.held; asked = ap (λ (l : List Event). e ∷ l) g.asked; quiet = g.quiet; owned = g.owned; first_came = g.first_came }

  safe_more : (e : Event) (later : List Event) (what : ℕ → Use) (dev : ℕ → Dev) (n : Now) → Safe later what dev n → Safe (e ∷ later) what dev n
  safe_more e later what dev n (inl g) = inl (again_more e later g)
  safe_more e later what dev n (inr a) = inr (a.0, more_either (λ (h : T (first later) × NotLending d (what f) n). (first_more e later h.0, h.1)) (λ (h : T (is_shut (dev d)) × NotOpening d n). h) a.1)

  -- the call that lends it again
  lent_now : (c : ℕ) (k : Call) (later : List Event) (s : State) → Run can t later s Quiet → T (first later) → T (lends_it d c k (s.what f)) → Again (Asked c k ∷ later)
  unfolding lends_it
  lent_now c (Get v) later s r b h = absurd h
  lent_now c (Free v) later s r b h = absurd h
  lent_now c (Give v to at) later s r b h = absurd h
  lent_now c (Open e) later s r b h = absurd h
  lent_now c (Close e) later s r b h = absurd h
  lent_now c (Regs e v) later s r b h = absurd h
  lent_now c (Lend v e p w) later s r b h =
      let q = both (eqb e d) (is_of c v (s.what f)) h in
      let u = page_of c v (s.what f) q.1 in
      record { who = c; at = v; page = p; writes = w; later = []; earlier = later; state = s; held = u.0; asked = ap (λ (x : ℕ). Asked c (Lend v x p w) ∷ later) (eqb→eq e d q.0); quiet = joined can start t before r0 r; owned = u.1; first_came = b }
  lent_now c (Recall v) later s r b h = absurd h
  lent_now c (End w) later s r b h = absurd h

  safe_asked : (c : ℕ) (k : Call) (later : List Event) (s : State) → Run can t later s Quiet → Safe later s.what s.dev Quiet → Safe (Asked c k ∷ later) s.what s.dev (Under c k)
  safe_asked c k later s r (inl g) = inl (again_more (Asked c k) later g)
  safe_asked c k later s r (inr a) =
      ⊎_elim
      (λ (h : T (first later) × Unit {0}). ⊎_elim (λ (y : T (lends_it d c k (s.what f))). inl (lent_now c k later s r h.0 y)) (λ (y : T (not (lends_it d c k (s.what f)))). inr (a.0, inl (first_more (Asked c k) later h.0, y))) (decide (lends_it d c k (s.what f))))
      (λ (h : T (is_shut (s.dev d)) × Unit {0}). ⊎_elim (λ (y : T (opens d k)). inr (a.0, inl (first_opened c k later y, opens_lends d c k (s.what f) y))) (λ (y : T (not (opens d k))). inr (a.0, inr (h.0, y))) (decide (opens d k)))
      a.1

  safe_loosened : (c : ℕ) (k : Call) (later : List Event) (s : State) → why s c k ≡ 0 → Safe later s.what s.dev (Under c k) → Safe later (loosens s c k).what (loosens s c k).dev (Under c k)
  safe_loosened c k later s e (inl g) = inl g
  safe_loosened c k later s e (inr a) =
      inr (
        λ p z. a.0 p ((loosens_fewer k s c f e).lent d p z),
        more_either (λ (h : T (first later) × T (not (lends_it d c k (s.what f)))). (h.0, loosens_not_lending d k s c f h.1))
            (λ (h : T (is_shut (s.dev d)) × T (not (opens d k))). (subst (λ (x : ℕ → Dev). T (is_shut (x d))) (sym (loosens_dev k s c)) h.0, h.1)) a.1,
      )

  safe_acted : (c : ℕ) (k : Call) (g : ℕ) (later : List Event) (s : State) → why s c k ≡ 0 → Safe later s.what s.dev (Under c k) → Safe later (acts g s c k).state.what (acts g s c k).state.dev (Over c k (acts g s c k).answer)
  safe_acted c k g later s e (inl z) = inl z
  safe_acted c k g later s e (inr a) =
      let o : T (not (lends_it d c k (s.what f))) ⊎ T (is_shut (s.dev d)) = more_either (λ (h : T (first later) × T (not (lends_it d c k (s.what f)))). h.1) (λ (h : T (is_shut (s.dev d)) × T (not (opens d k))). h.0) a.1 in
      inr (
        λ p z. a.0 p (new_at d f s c k g e o p z),
        more_either (λ (h : T (first later) × T (not (lends_it d c k (s.what f)))). (h.0, tt)) (λ (h : T (is_shut (s.dev d)) × T (not (opens d k))). (still_shut d k g s c h.1 h.0, tt)) a.1,
      )

  safe_over : (c : ℕ) (k : Call) (a : Answer) (later : List Event) (what : ℕ → Use) (dev : ℕ → Dev) → Safe later what dev (Under c k) → Safe later what dev (Over c k a)
  safe_over c k a later what dev (inl g) = inl g
  safe_over c k a later what dev (inr h) = inr (h.0, more_either (λ (x : T (first later) × T (not (lends_it d c k (what f)))). (x.0, tt)) (λ (x : T (is_shut (dev d)) × T (not (opens d k))). (x.0, tt)) h.1)

  safe : Safe [] t.what t.dev Quiet → {later : List Event} {s : State} {n : Now} → Run can t later s n → Safe later s.what s.dev n
  safe h Meaning.begin = h
  safe h (Meaning.asks {es = later} {s = s} c k r) = safe_asked c k later s r (safe h r)
  safe h (Meaning.loosened {es = later} {s = s} {c = c} {k = k} r b w) = safe_loosened c k later s w (safe h r)
  safe h (Meaning.acted {es = later} {s = s} {c = c} {k = k} g r b w i x) = safe_acted c k g later s w (safe h r)
  safe h (Meaning.refused {es = later} {s = s} {c = c} {k = k} r b w) = safe_over c k (No (why s c k)) later s.what s.dev (safe h r)
  safe h (Meaning.not_built {es = later} {s = s} {c = c} {k = k} r b) = safe_over c k (No 9) later s.what s.dev (safe h r)
  safe h (Meaning.tells {es = later} {s = s} {c = c} {k = k} {a = a} r m) = safe_more (Told c k a) later s.what s.dev Quiet (safe h r)
  safe h (Meaning.loads {es = later} {s = s} c v k r b) = safe_more _ later s.what s.dev Quiet (safe h r)
  safe h (Meaning.stores {es = later} {s = s} c v k x r b) = safe_more _ later s.what s.dev Quiet (safe h r)
  safe h (Meaning.pokes {es = later} {s = s} c v e r b) = safe_more _ later s.what s.dev Quiet (safe h r)
  safe h (Meaning.faults {es = later} {s = s} c v r b) = safe_more _ later s.what s.dev Quiet (safe h r)
  safe h (Meaning.took {es = later} {s = s} {n = n} e p g k r l b) = safe_more _ later s.what s.dev n (safe h r)
  safe h (Meaning.puts {es = later} {s = s} {n = n} e p g k x r l b) = safe_more _ later s.what s.dev n (safe h r)
  safe h (Meaning.misses {es = later} {s = s} {n = n} e p w r b) = safe_more _ later s.what s.dev n (safe h r)
  safe h (Meaning.drains {es = later} {s = s} {n = n} e b r) = noted (λ (x : State). Safe (Drained e b ∷ later) x.what x.dev n) e b s (safe_more (Drained e b) later s.what s.dev n (safe h r)) (safe_more (Drained e b) later s.what s.dev n (safe h r))

  -- so a touch came after that
  pub touch_again : Safe [] t.what t.dev Quiet → (e : Event) (later : List Event) (s : State) (n : Now) → Run can t later s n → Seen s n e → T (touches d f e) → Again later
  touch_again h e later s n r q o = ⊎_elim (λ (g : Again later). g) (λ z. absurd (touch_at d f s n e q o z.0)) (safe h r)
