-- A call under way: where it began, and how its state came from that. Assumes nothing.
use Rattle.std.proofs.Common.{◌≡◌, ℕ, ◌/◌, ◌<◌, Bool, not, ◌&&◌, ◌||◌, T, ltb, ◌⊎◌, List, [], ◌∷◌, ◌++◌, sym, refl, ap, ◌∙◌, subst, inl, inr, ⊎_elim, arith, ltb→lt, T_not}
use mathlib.Core.List.Memᴰ
use mathlib.Core.List.{Memᴰ, tail-eq_of_cons-eq, nil≢cons}
use Rattle.house.specs.declared.Call.{Call}
use Rattle.house.specs.declared.Call.TheVariants.{Get, Free, Give, Open, Close, Regs, Lend, Recall, End}
use Rattle.house.specs.declared.Answer.{Answer}
use Rattle.house.specs.declared.Answer.TheVariants.{Done, Later, No}
use Rattle.house.specs.Event.{Event, Asked, TookFrom, PutInto, Missed, Drained}
use Rattle.house.specs.Meaning
use Rattle.house.specs.Meaning.{Home, Use, Of, Dev, State, is_home, owner_is, is_shut, has, frame_of, loan, why, shut_all, set_drains, use_at, acts, is_in, device_of, all_drained, excused, Out, Run, Now, Quiet, Under, Over}
use Rattle.house.specs.Served.{of_device, only_devices, drained_in, undrained_in, after, Began, Untouched}
use Rattle.house.proofs.Shelf.{both, pair, either, choose, here, every_at}
use Rattle.house.proofs.MeaningUses.{not_of_fewer}
use Rattle.house.proofs.Latest.{Seen}
use Rattle.house.proofs.DeviceEvents.{drained_more, replayed, stepped, stepped_view, stepped_after, stepped_drains, stepped_why, undrained_more, wrote}
use Rattle.house.proofs.Stays.{Alike, AlikeOf, alike_leaving, alike_loosens, alike_self, loosens_drains, loosens_why, recall_passes}
use Rattle.house.proofs.ShutAll.{Gone, Kept, NothingAt, drained_of_all, gone_shut, shut_all_gone, shut_all_kept}

module _ (can : Call → Bool) (start : State) (c : ℕ) (k : Call) where
  pub began_more : (es : List Event) (e : Event) → T (of_device e) → Began can start c k es → Began can start c k (e ∷ es)
  began_more es e o b = record { since = e ∷ b.since; before = b.before; state = b.state; asked = ap (λ (l : List Event). e ∷ l) b.asked; quiet = b.quiet; devices = pair (of_device e) (only_devices b.since) o b.devices }

  pub untouched_more : (es : List Event) (s : State) (b : Began can start c k es) (e : Event) (o : T (of_device e)) (m : Now) → Seen s m e → Untouched can start c k es s b → Untouched can start c k (e ∷ es) (stepped e s) (began_more es e o b)
  unfolding began_more
  untouched_more es s b e o m h U =
      let z : State = after b.since b.state in
      let h' : Seen z m e = subst (λ (y : State). Seen y m e) U.state h in
      let more : Run can start (e ∷ (b.since ++ (Asked c k ∷ b.before))) (after (e ∷ b.since) b.state) (Under c k) =
      subst (λ (y : State). Run can start (e ∷ (b.since ++ (Asked c k ∷ b.before))) y (Under c k)) (stepped_after e o b.since b.state)
      (replayed can start (b.since ++ (Asked c k ∷ b.before)) e o z m (Under c k) h' (U.throughout [] b.since refl)) in
      record {
        state = ap (stepped e) U.state ∙ stepped_after e o b.since b.state;
        throughout = λ later earlier q. parts later earlier q more;
        lent = λ d p f j x i. ⊎_elim (λ (is : PutInto d p f j x ≡ e). wrote z m e h' d p f j x is) (λ (old : Memᴰ (PutInto d p f j x) b.since). U.lent d p f j x old) (Memᴰ.cases_cons i);
      }
    where
      parts : (later earlier : List Event) → e ∷ b.since ≡ later ++ earlier → Run can start (e ∷ (b.since ++ (Asked c k ∷ b.before))) (after (e ∷ b.since) b.state) (Under c k) → Run can start (earlier ++ (Asked c k ∷ b.before)) (after earlier b.state) (Under c k)
      parts [] earlier q r = subst (λ (l : List Event). Run can start (l ++ (Asked c k ∷ b.before)) (after l b.state) (Under c k)) q r
      parts (x ∷ later) earlier q r = U.throughout later earlier (tail-eq_of_cons-eq q)

-- what is so when done will be told, and when later may be
abbrev pub IsDone : State → ℕ → Call → List ℕ → (ℕ → Use) → (ℕ → Dev) → Type 0
IsDone t c (Get v) ys what dev = Unit {0}
IsDone t c (Free v) ys what dev = Unit {0}
IsDone t c (Give v to at) ys what dev = Unit {0}
IsDone t c (Open d) ys what dev = Unit {0}
IsDone t c (Close d) ys what dev = T (is_in d ys) × T (is_shut (dev d)) × NothingAt d what
IsDone t c (Regs d v) ys what dev = Unit {0}
IsDone t c (Lend v d p w) ys what dev = Unit {0}
IsDone t c (Recall v) ys what dev = T (is_in (device_of (loan t c v)) ys) × T (has t c v) × T (not (is_home (loan t c v))) × (what (frame_of t c v) ≡ Of c v Home)
IsDone t c (End w) ys what dev = (d : ℕ) → T (ltb d t.devices && owner_is w (t.dev d)) → T (is_in d ys) × T (is_shut (dev d)) × NothingAt d what

abbrev pub IsLater : State → ℕ → Call → List ℕ → List ℕ → ℕ → ℕ → (ℕ → Use) → (ℕ → Dev) → Type 0
IsLater t c (Get v) ys ns frames devices what dev = Unit {0}
IsLater t c (Free v) ys ns frames devices what dev = Unit {0}
IsLater t c (Give v to at) ys ns frames devices what dev = Unit {0}
IsLater t c (Open d) ys ns frames devices what dev = Unit {0}
IsLater t c (Close d) ys ns frames devices what dev = T (is_in d ys) ⊎ T (is_in d ns)
IsLater t c (Regs d v) ys ns frames devices what dev = Unit {0}
IsLater t c (Lend v d p w) ys ns frames devices what dev = Unit {0}
IsLater t c (Recall v) ys ns frames devices what dev = (T (is_in (device_of (loan t c v)) ys) ⊎ T (is_in (device_of (loan t c v)) ns)) × Alike t c (Recall v) frames devices what dev
IsLater t c (End w) ys ns frames devices what dev = ((d : ℕ) → T (ltb d t.devices && owner_is w (t.dev d)) → T (is_in d ys) ⊎ T (is_in d ns)) × (devices ≡ t.devices) × ((d : ℕ) → T (owner_is w (dev d)) → T (owner_is w (t.dev d)))

done_more : (t : State) (c : ℕ) (k : Call) (ys zs : List ℕ) (what : ℕ → Use) (dev : ℕ → Dev) → ((x : ℕ) → T (is_in x ys) → T (is_in x zs)) → IsDone t c k ys what dev → IsDone t c k zs what dev
done_more t c (Get v) ys zs what dev m h = h
done_more t c (Free v) ys zs what dev m h = h
done_more t c (Give v to at) ys zs what dev m h = h
done_more t c (Open d) ys zs what dev m h = h
done_more t c (Close d) ys zs what dev m h = (m d h.0, h.1, h.2)
done_more t c (Regs d v) ys zs what dev m h = h
done_more t c (Lend v d p w) ys zs what dev m h = h
done_more t c (Recall v) ys zs what dev m h = (m (device_of (loan t c v)) h.0, h.1, h.2, h.3)
done_more t c (End w) ys zs what dev m h = λ d q. (m d (h d q).0, (h d q).1, (h d q).2)

pub more_either : {A B C D : Type 0} → (A → C) → (B → D) → A ⊎ B → C ⊎ D
more_either f g (inl a) = inl (f a)
more_either f g (inr b) = inr (g b)

later_more : (t : State) (c : ℕ) (k : Call) (ys zs none none' : List ℕ) (frames devices : ℕ) (what : ℕ → Use) (dev : ℕ → Dev) → ((x : ℕ) → T (is_in x ys) → T (is_in x zs)) → ((x : ℕ) → T (is_in x none) → T (is_in x none')) →
    IsLater t c k ys none frames devices what dev → IsLater t c k zs none' frames devices what dev
later_more t c (Get v) ys zs a b frames devices what dev m n h = h
later_more t c (Free v) ys zs a b frames devices what dev m n h = h
later_more t c (Give v to at) ys zs a b frames devices what dev m n h = h
later_more t c (Open d) ys zs a b frames devices what dev m n h = h
later_more t c (Close d) ys zs a b frames devices what dev m n h = more_either (m d) (n d) h
later_more t c (Regs d v) ys zs a b frames devices what dev m n h = h
later_more t c (Lend v d p w) ys zs a b frames devices what dev m n h = h
later_more t c (Recall v) ys zs a b frames devices what dev m n h = (more_either (m (device_of (loan t c v))) (n (device_of (loan t c v))) h.0, h.1)
later_more t c (End w) ys zs a b frames devices what dev m n h = (λ d q. more_either (m d) (n d) (h.0 d q), h.1, h.2)

-- a call that is asked, and one that has its answer
pub record Asking (can : Call → Bool) (start : State) (c : ℕ) (k : Call) (es : List Event) (s : State) : Type 0 where
  pub began : Began can start c k es
  pub drained : s.drained ≡ drained_in began.since
  pub undrained : s.undrained ≡ undrained_in began.since
  pub alike : AlikeOf began.state c k s
  pub phase : Untouched can start c k es s began ⊎ (T (can k) × (why s c k ≡ 0))

abbrev pub Outcome : (can : Call → Bool) (start : State) (c : ℕ) (k : Call) (es : List Event) (s : State) → Began can start c k es → Answer → Type 0
Outcome can start c k es s b Done = IsDone b.state c k (drained_in b.since) s.what s.dev
Outcome can start c k es s b Later = IsLater b.state c k (drained_in b.since) (undrained_in b.since) s.frames s.devices s.what s.dev
Outcome can start c k es s b (No x) = Untouched can start c k es s b

pub record Answering (can : Call → Bool) (start : State) (c : ℕ) (k : Call) (a : Answer) (es : List Event) (s : State) : Type 0 where
  pub began : Began can start c k es
  pub drained : s.drained ≡ drained_in began.since
  pub undrained : s.undrained ≡ undrained_in began.since
  pub outcome : Outcome can start c k es s began a

abbrev pub InCall : (can : Call → Bool) (start : State) → List Event → State → Now → Type 0
InCall can start es s Quiet = Unit {0}
InCall can start es s (Under c k) = Asking can start c k es s
InCall can start es s (Over c k a) = Answering can start c k a es s

outcome_more : (can : Call → Bool) (start : State) (c : ℕ) (k : Call) (es : List Event) (s : State) (b : Began can start c k es) (e : Event) (o : T (of_device e)) (m : Now) → Seen s m e → (a : Answer) → Outcome can start c k es s b a →
    Outcome can start c k (e ∷ es) (stepped e s) (began_more can start c k es e o b) a
unfolding began_more
outcome_more can start c k es s b e o m h Done d =
    done_more b.state c k (drained_in b.since) (drained_in (e ∷ b.since)) (stepped e s).what (stepped e s).dev (drained_more e b.since)
    (stepped_view (λ _ _ what dev. IsDone b.state c k (drained_in b.since) what dev) e s d)
outcome_more can start c k es s b e o m h Later d =
    later_more b.state c k (drained_in b.since) (drained_in (e ∷ b.since)) (undrained_in b.since) (undrained_in (e ∷ b.since)) (stepped e s).frames (stepped e s).devices (stepped e s).what (stepped e s).dev
    (drained_more e b.since) (undrained_more e b.since) (stepped_view (λ frames devices what dev. IsLater b.state c k (drained_in b.since) (undrained_in b.since) frames devices what dev) e s d)
outcome_more can start c k es s b e o m h (No x) d = untouched_more can start c k es s b e o m h d

-- one more event of a device
call_more : (can : Call → Bool) (start : State) (es : List Event) (s : State) (e : Event) (o : T (of_device e)) (n : Now) → Seen s n e → InCall can start es s n → InCall can start (e ∷ es) (stepped e s) n
unfolding began_more
call_more can start es s e o Quiet h g = tt
call_more can start es s e o (Under c k) h g =
    let q = stepped_drains e o g.began.since s g.drained g.undrained in
    record {
      began = began_more can start c k es e o g.began;
      drained = q.0;
      undrained = q.1;
      alike = stepped_view (Alike g.began.state c k) e s g.alike;
      phase = more_either (untouched_more can start c k es s g.began e o (Under c k) h) (λ (w : T (can k) × (why s c k ≡ 0)). (w.0, stepped_why e k c s w.1)) g.phase;
    }
call_more can start es s e o (Over c k a) h g =
    let q = stepped_drains e o g.began.since s g.drained g.undrained in
    record {
      began = began_more can start c k es e o g.began;
      drained = q.0;
      undrained = q.1;
      outcome = outcome_more can start c k es s g.began e o (Over c k a) h a g.outcome;
    }

-- a call takes effect
module _ (can : Call → Bool) (start : State) (c : ℕ) (es : List Event) (s : State) where
  acted_call : (k : Call) (f : ℕ) → why s c k ≡ 0 → T (excused s c k) → Asking can start c k es s → Answering can start c k (acts f s c k).answer es (acts f s c k).state
  unfolding acts excused
  acted_call (Get v) f e x g = record { began = g.began; drained = g.drained; undrained = g.undrained; outcome = tt }
  acted_call (Free v) f e x g = record { began = g.began; drained = g.drained; undrained = g.undrained; outcome = tt }
  acted_call (Give v to at) f e x g = record { began = g.began; drained = g.drained; undrained = g.undrained; outcome = tt }
  acted_call (Open d) f e x g = record { began = g.began; drained = g.drained; undrained = g.undrained; outcome = tt }
  acted_call (Regs d v) f e x g = record { began = g.began; drained = g.drained; undrained = g.undrained; outcome = tt }
  acted_call (Lend v d p w) f e x g =
      choose (λ (o : Out). Answering can start c (Lend v d p w) o.answer es o.state) (s.slots d (p / 512)) _ _
      (λ _. record { began = g.began; drained = g.drained; undrained = g.undrained; outcome = tt }) (λ _. record { began = g.began; drained = g.drained; undrained = g.undrained; outcome = tt })
  acted_call (Close d) f e x g =
      choose (λ (o : Out). Answering can start c (Close d) o.answer es o.state) (is_in d s.drained) _ _
      (λ i. record { began = g.began; drained = g.drained; undrained = g.undrained; outcome = (subst (λ (l : List ℕ). T (is_in d l)) g.drained i, (gone_shut d s).0, (gone_shut d s).1) })
      (λ _. record { began = g.began; drained = g.drained; undrained = g.undrained; outcome = more_either (subst (λ (l : List ℕ). T (is_in d l)) g.drained) (subst (λ (l : List ℕ). T (is_in d l)) g.undrained) (either (is_in d s.drained) (is_in d s.undrained) x) })
  acted_call (Recall v) f e x g =
      let h = recall_passes s c v e in
      let t : State = g.began.state in
      let D : ℕ = device_of (loan s c v) in
      let same : D ≡ device_of (loan t c v) = g.alike.2 in
      choose (λ (o : Out). Answering can start c (Recall v) o.answer es o.state) (is_in D s.drained) _ _
      (λ i. record {
        began = g.began;
        drained = g.drained;
        undrained = g.undrained;
        outcome = (
          subst (λ (y : ℕ). T (is_in y (drained_in g.began.since))) same (subst (λ (l : List ℕ). T (is_in D l)) g.drained i),
          subst T g.alike.0 h.0,
          subst (λ (y : Bool). T (not y)) g.alike.3 h.1,
          subst (λ (y : ℕ). use_at (frame_of s c v) (Of c v Home) s.what y ≡ Of c v Home) g.alike.1 (here (frame_of s c v) (Of c v Home) (s.what (frame_of s c v))),
        );
      })
      (λ _. record {
        began = g.began;
        drained = g.drained;
        undrained = g.undrained;
        outcome = (subst (λ (y : ℕ). T (is_in y (drained_in g.began.since)) ⊎ T (is_in y (undrained_in g.began.since))) same (more_either (subst (λ (l : List ℕ). T (is_in D l)) g.drained) (subst (λ (l : List ℕ). T (is_in D l)) g.undrained) (either (is_in D s.drained) (is_in D s.undrained) x)), alike_leaving t s c v h.0 g.alike);
      })
  acted_call (End w) f e x g =
      let A : State = shut_all s.devices w s in
      let K : Kept w s A = shut_all_kept s.devices w s in
      let t : State = g.began.state in
      let own : (d : ℕ) → T (ltb d t.devices && owner_is w (t.dev d)) → (d < s.devices) × T (owner_is w (s.dev d)) =
      λ d q. let r = both (ltb d t.devices) (owner_is w (t.dev d)) q in (subst (λ (y : ℕ). d < y) (sym g.alike.0) (ltb→lt d t.devices r.0), subst (λ (y : Dev). T (owner_is w y)) (sym (g.alike.1 d)) r.1) in
      choose (λ (o : Out). Answering can start c (End w) o.answer es o.state) (all_drained s.devices w s) _ _
      (λ i. record {
        began = g.began;
        drained = K.drained ∙ g.drained;
        undrained = K.undrained ∙ g.undrained;
        outcome = λ d q. let r = own d q in
            let j : T (is_in d s.drained) = drained_of_all s.devices w s i d r.0 r.1 in
            let G : Gone d A = shut_all_gone s.devices w s d r.0 r.1 j in
            (subst (λ (l : List ℕ). T (is_in d l)) g.drained j, G.0, λ h p z. G.1 h p ((not_of_fewer w (A.what h)).lent d p z));
      })
      (λ _. record {
        began = g.began;
        drained = K.drained ∙ g.drained;
        undrained = K.undrained ∙ g.undrained;
        outcome = (
          (λ d q. let r = own d q in
              let z = every_at s.devices (λ (n : ℕ). not (owner_is w (s.dev n)) || is_in n s.drained || is_in n s.undrained) x d r.0 in
              ⊎_elim (λ (y : T (not (owner_is w (s.dev d)) || is_in d s.drained)). inl (⊎_elim (λ (u : T (not (owner_is w (s.dev d)))). absurd (T_not (owner_is w (s.dev d)) u r.1)) (λ (u : T (is_in d s.drained)). subst (λ (l : List ℕ). T (is_in d l)) g.drained u) (either (not (owner_is w (s.dev d))) (is_in d s.drained) y)))
              (λ (y : T (is_in d s.undrained)). inr (subst (λ (l : List ℕ). T (is_in d l)) g.undrained y)) (either (not (owner_is w (s.dev d)) || is_in d s.drained) (is_in d s.undrained) z)),
          K.devices ∙ g.alike.0,
          λ d o. subst (λ (y : Dev). T (owner_is w y)) (g.alike.1 d) (K.owners d w o),
        );
      })

nil_parts : (l m : List Event) → [] ≡ l ++ m → m ≡ []
nil_parts [] m e = sym e
nil_parts (x ∷ l) m e = absurd (nil≢cons e)

asked_call : (can : Call → Bool) (start : State) (c : ℕ) (k : Call) (es : List Event) (s : State) → Run can start es s Quiet → Asking can start c k (Asked c k ∷ es) (set_drains [] [] s)
asked_call can start c k es s r =
    record {
      began = record { since = []; before = es; state = s; asked = refl; quiet = r; devices = tt };
      drained = refl;
      undrained = refl;
      alike = alike_self s c k;
      phase = inl (record {
        state = refl;
        throughout = λ later earlier e. subst (λ (l : List Event). Run can start (l ++ (Asked c k ∷ es)) (after l s) (Under c k)) (sym (nil_parts later earlier e)) (Meaning.asks c k r);
        lent = λ d p f j x i. absurd (Memᴰ.not-nil i);
      });
    }

module _ (can : Call → Bool) (start : State) where
  pub in_call : {es : List Event} {s : State} {n : Now} → Run can start es s n → InCall can start es s n
  in_call Meaning.begin = tt
  in_call (Meaning.asks {es = es} {s = s} c k r) = asked_call can start c k es s r
  in_call (Meaning.loosened {s = s} {c = c} {k = k} r b w) =
      let g = in_call r in
      record {
        began = g.began;
        drained = (loosens_drains s c k).0 ∙ g.drained;
        undrained = (loosens_drains s c k).1 ∙ g.undrained;
        alike = alike_loosens g.began.state s c k w g.alike;
        phase = inr (b, loosens_why s c k w);
      }
  in_call (Meaning.acted {es = es} {s = s} {c = c} {k = k} f r b w i x) = acted_call can start c es s k f w x (in_call r)
  in_call (Meaning.refused {es = es} {s = s} {c = c} {k = k} r b w) =
      let g = in_call r in
      record {
        began = g.began;
        drained = g.drained;
        undrained = g.undrained;
        outcome = ⊎_elim (λ (u : Untouched can start c k es s g.began). u) (λ (z : T (can k) × (why s c k ≡ 0)). absurd (omega (arith, z.1))) g.phase;
      }
  in_call (Meaning.not_built {es = es} {s = s} {c = c} {k = k} r b) =
      let g = in_call r in
      record {
        began = g.began;
        drained = g.drained;
        undrained = g.undrained;
        outcome = ⊎_elim (λ (u : Untouched can start c k es s g.began). u) (λ (z : T (can k) × (why s c k ≡ 0)). absurd (T_not (can k) b z.0)) g.phase;
      }
  in_call (Meaning.tells r m) = tt
  in_call (Meaning.loads c v k r h) = tt
  in_call (Meaning.stores c v k x r h) = tt
  in_call (Meaning.pokes c v d r e) = tt
  in_call (Meaning.faults c v r t) = tt
  in_call (Meaning.took {es = es} {s = s} {n = n} d p f k r l t) = call_more can start es s (TookFrom d p f k (s.word f k)) tt n (l, t, refl) (in_call r)
  in_call (Meaning.puts {es = es} {s = s} {n = n} d p f k x r l t) = call_more can start es s (PutInto d p f k x) tt n (l, t) (in_call r)
  in_call (Meaning.misses {es = es} {s = s} {n = n} d p w r t) = call_more can start es s (Missed d p w) tt n t (in_call r)
  in_call (Meaning.drains {es = es} {s = s} {n = n} d b r) = call_more can start es s (Drained d b) tt n tt (in_call r)
