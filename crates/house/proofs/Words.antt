-- What pages hold. Assumes nothing.
use Rattle.std.proofs.Common.{◌≡◌, ℕ, ◌/◌, ◌<◌, Bool, true, false, cond, not, ◌&&◌, ◌||◌, T, eqb, ltb, leb, ◌⊎◌, List, [], ◌∷◌, sym, refl, ap, ◌∙◌, subst, inl, inr, ⊎_elim, eqb→eq, T_not}
use lib.Dec.{not_T}
use Rattle.house.specs.declared.Call.{Call}
use Rattle.house.specs.declared.Call.TheVariants.{Get, Free, Give, Open, Close, Regs, Lend, Recall, End}
use Rattle.house.specs.declared.Answer.{Answer}
use Rattle.house.specs.declared.Answer.TheVariants.{No}
use Rattle.house.specs.Event.{Event, Asked, Told, Loaded, Stored, Faulted, Poked, TookFrom, PutInto, Missed, Drained}
use Rattle.house.specs.Machine.{Hw}
use Rattle.house.specs.Meaning
use Rattle.house.specs.Meaning.{Loan, Home, Lent, Use, House, TableOf, Idle, Of, State, is_of, is_idle, loan_of, reaches, has, frame_of, loan, idle, why, leaving, shut_all, use_at, acts, takes_frame, loosens, is_in, device_of, all_drained, Out, Run, Now, Quiet, Under, Over}
use Rattle.house.specs.Promise.{start_of}
use Rattle.house.specs.Words.{Moment, events, Explains, is_page, leaves, last_written, Tells, Faithful, HoldsLastWritten}
use Rattle.house.proofs.Shelf.{both, pair, not_not, is_true, is_false, decide, choose, at_one, passes, same_number, taken_one, taken_two}
use Rattle.house.proofs.MeaningUses.{of_page, found, Fewer, shut_fewer, shutting_fewer, not_of_fewer, through_shut_all}
use Rattle.house.proofs.Good.{Fine, fine, fine_start, noted}
use Rattle.house.proofs.Latest.{to_be_written}
use Rattle.house.proofs.Stays.{recall_passes}
use Rattle.house.proofs.After.{all_fewer, leaves_fewer}

pub is_page_of : (u : Use) → T (is_page u) → (c : ℕ) × (v : ℕ) × T (is_of c v u)
is_page_of House t = absurd t
is_page_of (TableOf d) t = absurd t
is_page_of Idle t = absurd t
is_page_of (Of c v l) t = (c, v, of_page c v l)

pub of_is_page : (c v : ℕ) (u : Use) → T (is_of c v u) → T (is_page u)
unfolding is_of
of_is_page c v House t = t
of_is_page c v (TableOf d) t = t
of_is_page c v Idle t = t
of_is_page c v (Of w x l) t = tt

pub fewer_pages : (a b : Use) → Fewer a b → T (is_page b) → T (is_page a)
fewer_pages a b h t = let q = is_page_of b t in of_is_page q.0 q.1 a (h.owned q.0 q.1 q.2)

pub idle_no_page : (u : Use) → T (is_idle u) → T (is_page u) → ⊥
unfolding is_idle
idle_no_page House t p = t
idle_no_page (TableOf d) t p = t
idle_no_page Idle t p = p
idle_no_page (Of c v l) t p = t

pub reached_page : (d p : ℕ) (w : Bool) (u : Use) → T (reaches d p w (loan_of u)) → T (is_page u)
unfolding reaches loan_of
reached_page d p w House t = absurd t
reached_page d p w (TableOf e) t = absurd t
reached_page d p w Idle t = absurd t
reached_page d p w (Of c v l) t = tt

-- shutting leaves words alone
all_words : (n w : ℕ) (s : State) → (shut_all n w s).word ≡ s.word
all_words n w s = through_shut_all (λ (t : State). t.word ≡ s.word) (λ d t h. h) (λ d t h. h) n w s refl

-- the frame of one's page is a page
pub own_page : (s : State) (c v g : ℕ) → T (has s c v) → g ≡ frame_of s c v → T (is_page (s.what g))
own_page s c v g h e = of_is_page c v (s.what g) (subst (λ (x : ℕ). T (is_of c v (s.what x))) (sym e) (found s c v h).1)

-- what a call does to words: nothing to pages, and a new page is noughts
module _ (s : State) (c : ℕ) (g : ℕ) where
  abbrev Same : State → Type 0
  Same t = (T (is_page (s.what g)) → (j : ℕ) → t.word g j ≡ s.word g j) × (T (is_page (t.what g)) → T (is_page (s.what g)) ⊎ ((j : ℕ) → t.word g j ≡ 0))

  abbrev Old : Use → Type 0
  Old u = T (is_page u) → T (is_page (s.what g)) ⊎ ((j : ℕ) → s.word g j ≡ 0)

  pub acts_words : (k : Call) (f : ℕ) → why s c k ≡ 0 → T (not (takes_frame s k) || idle s f) → Same (acts f s c k).state
  unfolding acts why takes_frame
  acts_words (Get v) f e i = (
    λ p j. at_one (λ (x : ℕ). x ≡ s.word g j) g f 0 (s.word g j) (λ q. absurd (idle_no_page (s.what f) (both (ltb f s.frames) (is_idle (s.what f)) i).1 (subst (λ (x : ℕ). T (is_page (s.what x))) q p))) (λ _. refl),
    λ t. ⊎_elim (λ (q : T (eqb g f)). inr (λ j. taken_one (eqb g f) 0 (s.word g j) q)) (λ (q : T (not (eqb g f))). inl (subst (λ (u : Use). T (is_page u)) (taken_two (eqb g f) (Of c v Home) (s.what g) q) t)) (decide (eqb g f)),
  )
  acts_words (Free v) f e i = (λ p j. refl, at_one Old g (frame_of s c v) Idle (s.what g) (λ _ t. absurd t) (λ _ t. inl t))
  acts_words (Give v to at) f e i =
      let h = not_not (has s c v) (passes (not (has s c v)) 1 _ (passes (leb 1024 v || leb 32 to || leb 1024 at) 0 _ e).1).0 in
      (λ p j. refl, at_one Old g (frame_of s c v) (Of to at Home) (s.what g) (λ q _. inl (own_page s c v g h q)) (λ _ t. inl t))
  acts_words (Open d) f e i = (λ p j. refl, at_one Old g f (TableOf d) (s.what g) (λ _ t. absurd t) (λ _ t. inl t))
  acts_words (Close d) f e i =
      choose (λ (y : Out). Same y.state) (is_in d s.drained) _ _ (λ _. (λ p j. refl, λ t. inl (fewer_pages (s.what g) _ (shut_fewer d (s.what g)) t))) (λ _. (λ p j. refl, λ t. inl (fewer_pages (s.what g) _ (shutting_fewer d (s.what g)) t)))
  acts_words (Regs d v) f e i = (λ p j. refl, λ t. inl t)
  acts_words (Lend v d p w) f e i =
      let h = not_not (has s c v) (passes (not (has s c v)) 1 _ (passes (leb 1024 v || leb s.devices d || leb 262144 p) 0 _ e).1).0 in
      let lent : Old (use_at (frame_of s c v) (Of c v (Lent d p w)) s.what g) = at_one Old g (frame_of s c v) (Of c v (Lent d p w)) (s.what g) (λ q _. inl (own_page s c v g h q)) (λ _ t. inl t) in
      choose (λ (y : Out). Same y.state) (s.slots d (p / 512)) _ _ (λ _. (λ q j. refl, lent)) (λ _. (λ q j. refl, at_one Old g f (TableOf d) _ (λ _ t. absurd t) (λ _. lent)))
  acts_words (Recall v) f e i =
      let h = (recall_passes s c v e).0 in
      choose (λ (y : Out). Same y.state) (is_in (device_of (loan s c v)) s.drained) _ _
      (λ _. (λ q j. refl, at_one Old g (frame_of s c v) (Of c v Home) (s.what g) (λ q _. inl (own_page s c v g h q)) (λ _ t. inl t)))
      (λ _. (λ q j. refl, λ t. inl (fewer_pages (s.what g) _ (leaves_fewer s c v g h) t)))
  acts_words (End w) f e i =
      let A : State = shut_all s.devices w s in
      let W : (j : ℕ) → A.word g j ≡ s.word g j = λ j. ap (λ (m : ℕ → ℕ → ℕ). m g j) (all_words s.devices w s) in
      choose (λ (y : Out). Same y.state) (all_drained s.devices w s) _ _
      (λ _. (λ q j. W j, λ t. inl (fewer_pages (s.what g) (A.what g) (all_fewer s.devices w s g) (fewer_pages (A.what g) _ (not_of_fewer w (A.what g)) t))))
      (λ _. (λ q j. W j, λ t. inl (fewer_pages (s.what g) (A.what g) (all_fewer s.devices w s g) t)))

map_page : (h : Loan → Loan) (u : Use) → is_page (Meaning.map_loan h u) ≡ is_page u
unfolding Meaning.map_loan
map_page h House = refl
map_page h (TableOf d) = refl
map_page h Idle = refl
map_page h (Of c v l) = refl

-- what a call may let go early stays a page, and holds the same
pub loosens_pages : (k : Call) (s : State) (c f : ℕ) → why s c k ≡ 0 → is_page ((loosens s c k).what f) ≡ is_page (s.what f)
unfolding loosens
loosens_pages (Get v) s c f e = refl
loosens_pages (Free v) s c f e = refl
loosens_pages (Give v to at) s c f e = refl
loosens_pages (Open d) s c f e = refl
loosens_pages (Close d) s c f e = map_page (Meaning.leaving_from d) (s.what f)
loosens_pages (Regs d v) s c f e = refl
loosens_pages (Lend v d p w) s c f e = refl
loosens_pages (Recall v) s c f e = at_one (λ (u : Use). is_page u ≡ is_page (s.what f)) f (frame_of s c v) (Of c v (leaving (loan s c v))) (s.what f) (λ q. sym (is_true (is_page (s.what f)) (own_page s c v f (recall_passes s c v e).0 q))) (λ _. refl)
loosens_pages (End w) s c f e = map_page _ (s.what f)

pub loosens_words : (k : Call) (s : State) (c : ℕ) → (loosens s c k).word ≡ s.word
unfolding loosens
loosens_words (Get v) s c = refl
loosens_words (Free v) s c = refl
loosens_words (Give v to at) s c = refl
loosens_words (Open d) s c = refl
loosens_words (Close d) s c = refl
loosens_words (Regs d v) s c = refl
loosens_words (Lend v d p w) s c = refl
loosens_words (Recall v) s c = refl
loosens_words (End w) s c = refl

pub loosens_frames : (k : Call) (s : State) (c : ℕ) → (loosens s c k).frames ≡ s.frames
unfolding loosens
loosens_frames (Get v) s c = refl
loosens_frames (Free v) s c = refl
loosens_frames (Give v to at) s c = refl
loosens_frames (Open d) s c = refl
loosens_frames (Close d) s c = refl
loosens_frames (Regs d v) s c = refl
loosens_frames (Lend v d p w) s c = refl
loosens_frames (Recall v) s c = refl
loosens_frames (End w) s c = refl

pub acts_frames : (k : Call) (f : ℕ) (s : State) (c : ℕ) → (acts f s c k).state.frames ≡ s.frames
unfolding acts
acts_frames (Get v) f s c = refl
acts_frames (Free v) f s c = refl
acts_frames (Give v to at) f s c = refl
acts_frames (Open d) f s c = refl
acts_frames (Close d) f s c = choose (λ (y : Out). y.state.frames ≡ s.frames) (is_in d s.drained) _ _ (λ _. refl) (λ _. refl)
acts_frames (Regs d v) f s c = refl
acts_frames (Lend v d p w) f s c = choose (λ (y : Out). y.state.frames ≡ s.frames) (s.slots d (p / 512)) _ _ (λ _. refl) (λ _. refl)
acts_frames (Recall v) f s c = choose (λ (y : Out). y.state.frames ≡ s.frames) (is_in (device_of (loan s c v)) s.drained) _ _ (λ _. refl) (λ _. refl)
acts_frames (End w) f s c =
    let r : (shut_all s.devices w s).frames ≡ s.frames = through_shut_all (λ (t : State). t.frames ≡ s.frames) (λ d t h. h) (λ d t h. h) s.devices w s refl in
    choose (λ (y : Out). y.state.frames ≡ s.frames) (all_drained s.devices w s) _ _ (λ _. r) (λ _. r)

-- of all frames a store reaches the one that is one's page there
pub store_at : (s : State) (c v f : ℕ) → Fine s → T (has s c v) → f < s.frames → eqb f (frame_of s c v) ≡ is_of c v (s.what f)
store_at s c v f G h l =
    ⊎_elim
    (λ (t : T (is_of c v (s.what f))). is_true (eqb f (frame_of s c v)) (same_number f (frame_of s c v) (G.place c v f (frame_of s c v) l (found s c v h).0 t (found s c v h).1)) ∙ sym (is_true (is_of c v (s.what f)) t))
    (λ (t : T (not (is_of c v (s.what f)))). is_false (eqb f (frame_of s c v)) (not_T (eqb f (frame_of s c v)) (λ e. T_not (is_of c v (s.what f)) t (subst (λ (x : ℕ). T (is_of c v (s.what x))) (sym (eqb→eq f (frame_of s c v) e)) (found s c v h).1))) ∙ sym (is_false (is_of c v (s.what f)) t))
    (decide (is_of c v (s.what f)))

-- while a call waits to take effect, the same frames are pages as at the latest event
abbrev SamePages : List Moment → State → Now → Type 0
SamePages ms s Quiet = Unit {0}
SamePages [] s (Under c k) = Unit {0}
SamePages (m ∷ ms) s (Under c k) = (f : ℕ) → is_page (m.at.what f) ≡ is_page (s.what f)
SamePages ms s (Over c k a) = Unit {0}

record Recorded (can : Call → Bool) (start : State) (es : List Event) (s : State) (n : Now) : Type 0 where
  row : List Moment
  is : events row ≡ es
  explains : Explains can start row
  faithful : Faithful row
  words : (f k : ℕ) → f < s.frames → T (is_page (s.what f)) → s.word f k ≡ last_written row s f k
  pages : SamePages row s n

at_page : (a b : Bool) (x y : ℕ) → T a → b ≡ a → cond (not a && b) x y ≡ y
at_page true b x y t e = refl
at_page false b x y t e = absurd t

-- one more event, at a state whose uses it leaves alone
pages_now : (m : Moment) (ms : List Moment) (s : State) (n : Now) → ((f : ℕ) → m.at.what f ≡ s.what f) → SamePages (m ∷ ms) s n
pages_now m ms s Quiet h = tt
pages_now m ms s (Under c k) h = λ f. ap is_page (h f)
pages_now m ms s (Over c k a) h = tt

module _ (can : Call → Bool) (start : State) where
  record_more : (es : List Event) (e : Event) (s s' : State) (n n' : Now) (R : Recorded can start es s n) → Run can start es s n → s'.frames ≡ s.frames → ((f : ℕ) → s.what f ≡ s'.what f) →
      ((f k : ℕ) → f < s.frames → T (is_page (s.what f)) → s'.word f k ≡ leaves s e f k (s.word f k)) → ((row : List Moment) → ((f k : ℕ) → f < s.frames → T (is_page (s.what f)) → s.word f k ≡ last_written row s f k) → Tells row s e) → Recorded can start (e ∷ es) s' n'
  record_more es e s s' n n' R r sf sw new tells =
      record {
        row = record { at = s; event = e } ∷ R.row;
        is = ap (λ (l : List Event). e ∷ l) R.is;
        explains = (R.explains, (n, subst (λ (l : List Event). Run can start l s n) (sym R.is) r));
        faithful = (R.faithful, tells R.row R.words);
        words = λ f k l t. let l' : f < s.frames = subst (λ (x : ℕ). f < x) sf l in
            let t' : T (is_page (s.what f)) = subst (λ (u : Use). T (is_page u)) (sym (sw f)) t in
            new f k l' t' ∙ ap (leaves s e f k) (R.words f k l' t') ∙ sym (at_page (is_page (s.what f)) (is_page (s'.what f)) 0 (leaves s e f k (last_written R.row s f k)) t' (sym (ap is_page (sw f))));
        pages = pages_now (record { at = s; event = e }) R.row s' n' sw;
      }

  -- the row as it is, where a call is let go, takes effect or is refused
  same_pages_let : (ms : List Moment) (s : State) (c : ℕ) (k : Call) → why s c k ≡ 0 → SamePages ms s (Under c k) → SamePages ms (loosens s c k) (Under c k)
  same_pages_let [] s c k e h = tt
  same_pages_let (m ∷ ms) s c k e h = λ f. h f ∙ sym (loosens_pages k s c f e)

  last_let : (ms : List Moment) (s t : State) (f k : ℕ) → is_page (t.what f) ≡ is_page (s.what f) → last_written ms s f k ≡ last_written ms t f k
  last_let [] s t f k e = refl
  last_let (m ∷ ms) s t f k e = ap (λ (b : Bool). cond (not (is_page (m.at.what f)) && b) 0 (leaves m.at m.event f k (last_written ms m.at f k))) (sym e)

  -- a frame that becomes a page now
  last_new : (ms : List Moment) (s t : State) (c : ℕ) (k : Call) (f j : ℕ) → SamePages ms s (Under c k) → T (not (is_page (s.what f))) → T (is_page (t.what f)) → last_written ms t f j ≡ 0
  last_new [] s t c k f j h a b = refl
  last_new (m ∷ ms) s t c k f j h a b =
      taken_one (not (is_page (m.at.what f)) && is_page (t.what f)) 0 (leaves m.at m.event f j (last_written ms m.at f j)) (pair (not (is_page (m.at.what f))) (is_page (t.what f)) (subst (λ (x : Bool). T (not x)) (sym (h f)) a) b)

  record_let : (es : List Event) (s : State) (c : ℕ) (k : Call) → why s c k ≡ 0 → Recorded can start es s (Under c k) → Recorded can start es (loosens s c k) (Under c k)
  record_let es s c k e R =
      record {
        row = R.row;
        is = R.is;
        explains = R.explains;
        faithful = R.faithful;
        words = λ f j l t. ap (λ (m : ℕ → ℕ → ℕ). m f j) (loosens_words k s c) ∙ R.words f j (subst (λ (x : ℕ). f < x) (loosens_frames k s c) l) (subst T (loosens_pages k s c f e) t) ∙ last_let R.row s (loosens s c k) f j (loosens_pages k s c f e);
        pages = same_pages_let R.row s c k e R.pages;
      }

  record_act : (es : List Event) (s : State) (c : ℕ) (k : Call) (g : ℕ) → why s c k ≡ 0 → T (not (takes_frame s k) || idle s g) → Recorded can start es s (Under c k) → Recorded can start es (acts g s c k).state (Over c k (acts g s c k).answer)
  record_act es s c k g e i R =
      let t : State = (acts g s c k).state in
      record {
        row = R.row;
        is = R.is;
        explains = R.explains;
        faithful = R.faithful;
        words = λ f j l p. let A = acts_words s c f k g e i in
            let l' : f < s.frames = subst (λ (x : ℕ). f < x) (acts_frames k g s c) l in
            ⊎_elim
            (λ (q : T (is_page (s.what f))). A.0 q j ∙ R.words f j l' q ∙ last_let R.row s t f j (is_true (is_page (t.what f)) p ∙ sym (is_true (is_page (s.what f)) q)))
            (λ (q : T (not (is_page (s.what f)))). ⊎_elim (λ (y : T (is_page (s.what f))). absurd (T_not (is_page (s.what f)) q y)) (λ (y : (j : ℕ) → t.word f j ≡ 0). y j ∙ sym (last_new R.row s t c k f j R.pages q p)) (A.1 p))
            (decide (is_page (s.what f)));
        pages = tt;
      }

  record_over : (es : List Event) (s : State) (c : ℕ) (k : Call) (a : Answer) → Recorded can start es s (Under c k) → Recorded can start es s (Over c k a)
  record_over es s c k a R = record { row = R.row; is = R.is; explains = R.explains; faithful = R.faithful; words = R.words; pages = tt }

  module _ (begins : Fine start) (empty : (f : ℕ) → T (is_page (start.what f)) → ⊥) where
    recorded : {es : List Event} {s : State} {n : Now} → Run can start es s n → Recorded can start es s n
    recorded Meaning.begin = record { row = []; is = refl; explains = tt; faithful = tt; words = λ f k l t. absurd (empty f t); pages = tt }
    recorded (Meaning.asks {es = es} {s = s} c k r) = record_more es (Asked c k) s _ Quiet (Under c k) (recorded r) r refl (λ f. refl) (λ f j l t. refl) (λ ms w. tt)
    recorded (Meaning.loosened {es = es} {s = s} {c = c} {k = k} r b w) = record_let es s c k w (recorded r)
    recorded (Meaning.acted {es = es} {s = s} {c = c} {k = k} f r b w i x) = record_act es s c k f w i (recorded r)
    recorded (Meaning.refused {es = es} {s = s} {c = c} {k = k} r b w) = record_over es s c k (No (why s c k)) (recorded r)
    recorded (Meaning.not_built {es = es} {s = s} {c = c} {k = k} r b) = record_over es s c k (No 9) (recorded r)
    recorded (Meaning.tells {es = es} {s = s} {c = c} {k = k} {a = a} r m) = record_more es (Told c k a) s s (Over c k a) Quiet (recorded r) r refl (λ f. refl) (λ f j l t. refl) (λ ms w. tt)
    recorded (Meaning.loads {es = es} {s = s} c v k r h) =
        record_more es (Loaded c v k (s.word (frame_of s c v) k)) s s Quiet Quiet (recorded r) r refl (λ f. refl) (λ f j l t. refl) (λ ms w. (h, w (frame_of s c v) k (found s c v h).0 (own_page s c v (frame_of s c v) h refl)))
    recorded (Meaning.stores {es = es} {s = s} c v k x r h) =
        record_more es (Stored c v k x) s _ Quiet Quiet (recorded r) r refl (λ f. refl) (λ f j l t. ap (λ (b : Bool). cond (b && eqb j k) x (s.word f j)) (store_at s c v f (fine can start begins r) h l)) (λ ms w. h)
    recorded (Meaning.pokes {es = es} {s = s} c v d r e) = record_more es (Poked c v d) s s Quiet Quiet (recorded r) r refl (λ f. refl) (λ f j l t. refl) (λ ms w. tt)
    recorded (Meaning.faults {es = es} {s = s} c v r t) = record_more es (Faulted c v) s s Quiet Quiet (recorded r) r refl (λ f. refl) (λ f j l t. refl) (λ ms w. tt)
    recorded (Meaning.took {es = es} {s = s} {n = n} d p f k r l t) = record_more es (TookFrom d p f k (s.word f k)) s s n n (recorded r) r refl (λ f. refl) (λ f j l t. refl) (λ ms w. w f k l (reached_page d p false (s.what f) t))
    recorded (Meaning.puts {es = es} {s = s} {n = n} d p f k x r l t) = record_more es (PutInto d p f k x) s _ n n (recorded r) r refl (λ f. refl) (λ f j l t. refl) (λ ms w. to_be_written d p (s.what f) t)
    recorded (Meaning.misses {es = es} {s = s} {n = n} d p w r t) = record_more es (Missed d p w) s s n n (recorded r) r refl (λ f. refl) (λ f j l t. refl) (λ ms w. tt)
    recorded (Meaning.drains {es = es} {s = s} {n = n} d b r) =
        noted (λ (x : State). Recorded can start (Drained d b ∷ es) x n) d b s (record_more es (Drained d b) s _ n n (recorded r) r refl (λ f. refl) (λ f j l t. refl) (λ ms w. tt)) (record_more es (Drained d b) s _ n n (recorded r) r refl (λ f. refl) (λ f j l t. refl) (λ ms w. tt))

no_pages : (h : Hw) (f : ℕ) → T (is_page ((start_of h).what f)) → ⊥
no_pages h f = choose (λ (u : Use). T (is_page u) → ⊥) (ltb f 1) House Idle (λ _ t. t) (λ _ t. t)

pub holds_last_written : HoldsLastWritten
holds_last_written start h e every es s n r =
    let R = recorded every start (subst Fine (sym e) (fine_start h)) (λ f. subst (λ (x : State). T (is_page (x.what f)) → ⊥) (sym e) (no_pages h f)) r in
    (R.row, R.is, R.explains, R.faithful, R.words)
