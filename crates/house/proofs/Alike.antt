-- Two states that differ by which frame is which: the meaning cannot tell them apart. Assumes nothing.
use Rattle.std.proofs.Common.{◌≡◌, ℕ, zero, suc, ◌/◌, ◌<◌, Bool, true, false, cond, not, ◌&&◌, ◌||◌, T, eqb, leb, sym, refl, ap, ◌∙◌, subst, ⊎_elim, eqb→eq}
use Rattle.std.proofs.lemmas.Bool.{cases_eq}
use Rattle.house.specs.declared.Call.{Call}
use Rattle.house.specs.declared.Call.TheVariants.{Get, Free, Give, Open, Close, Regs, Lend, Recall, End}
use Rattle.house.specs.Meaning
use Rattle.house.specs.Meaning.{Loan, Use, House, TableOf, Idle, Of, State, any, first, is_in, is_of, is_idle, loan_of, is_home, is_at, owner_is, has, frame_of, loan, full, used, why, home_from, leaving_from, map_loan, no_table, shut, shutting, shut_all, set_use, set_word, use_at, Out, open_by}
use Rattle.house.specs.Words.{is_page}
use Rattle.house.proofs.Shelf.{not_not, choose, at_one, there, any_some, any_from, first_passes, same_number, other_number, taken_one, taken_two}
use Rattle.house.proofs.MeaningUses.{found, shut_fewer, shutting_fewer}
use Rattle.house.proofs.Good.{Fine}
use Rattle.house.proofs.Words.{fewer_pages, idle_no_page}

-- frames of one are frames of the other, with the same uses, and the same words where there is a page
pub record Sim (n : ℕ) (what : ℕ → Use) (word : ℕ → ℕ → ℕ) (u : ℕ → Use) (w : ℕ → ℕ → ℕ) : Type 0 where
  pub to : ℕ → ℕ
  pub from : ℕ → ℕ
  pub to_in : (f : ℕ) → f < n → to f < n
  pub from_in : (g : ℕ) → g < n → from g < n
  pub back : (f : ℕ) → f < n → from (to f) ≡ f
  pub forth : (g : ℕ) → g < n → to (from g) ≡ g
  pub uses : (f : ℕ) → f < n → u (to f) ≡ what f
  pub words : (f k : ℕ) → f < n → T (is_page (what f)) → w (to f) k ≡ word f k

pub sim_self : (n : ℕ) (what : ℕ → Use) (word : ℕ → ℕ → ℕ) → Sim n what word what word
sim_self n what word = record { to = λ f. f; from = λ f. f; to_in = λ f l. l; from_in = λ f l. l; back = λ f l. refl; forth = λ f l. refl; uses = λ f l. refl; words = λ f k l t. refl }

pub both_ways : (a b : Bool) → (T a → T b) → (T b → T a) → a ≡ b
both_ways true true p q = refl
both_ways true false p q = absurd (p tt)
both_ways false true p q = absurd (q tt)
both_ways false false p q = refl

swap : ℕ → ℕ → ℕ → ℕ
swap a b y = cond (eqb y a) b (cond (eqb y b) a y)

swap_in : (n a b y : ℕ) → a < n → b < n → y < n → swap a b y < n
unfolding swap
swap_in n a b y la lb ly = choose (λ (x : ℕ). x < n) (eqb y a) b _ (λ _. lb) (λ _. choose (λ (x : ℕ). x < n) (eqb y b) a y (λ _. la) (λ _. ly))

swap_one : (a b y : ℕ) → y ≡ a → swap a b y ≡ b
unfolding swap
swap_one a b y e = taken_one (eqb y a) b (cond (eqb y b) a y) (same_number y a e)

swap_two : (a b y : ℕ) → y ≡ b → swap a b y ≡ a
unfolding swap
swap_two a b y e = choose (λ (x : ℕ). x ≡ a) (eqb y a) b (cond (eqb y b) a y) (λ t. sym e ∙ eqb→eq y a t) (λ _. taken_one (eqb y b) a y (same_number y b e))

swap_rest : (a b y : ℕ) → (y ≡ a → ⊥) → (y ≡ b → ⊥) → swap a b y ≡ y
unfolding swap
swap_rest a b y p q = taken_two (eqb y a) b (cond (eqb y b) a y) (other_number y a p) ∙ taken_two (eqb y b) a y (other_number y b q)

swap_again : (a b y : ℕ) → swap a b (swap a b y) ≡ y
swap_again a b y =
    ⊎_elim (λ (e : y ≡ a). swap_two a b (swap a b y) (swap_one a b y e) ∙ sym e)
    (λ (p : y ≡ a → ⊥). ⊎_elim (λ (e : y ≡ b). swap_one a b (swap a b y) (swap_two a b y e) ∙ sym e) (λ (q : y ≡ b → ⊥). ap (swap a b) (swap_rest a b y p q) ∙ swap_rest a b y p q) (cases_eq y b)) (cases_eq y a)

module _ (n : ℕ) (what : ℕ → Use) (word : ℕ → ℕ → ℕ) (u : ℕ → Use) (w : ℕ → ℕ → ℕ) (S : Sim n what word u w) where
  pub uses_back : (g : ℕ) → g < n → u g ≡ what (S.from g)
  uses_back g l = ap u (sym (S.forth g l)) ∙ S.uses (S.from g) (S.from_in g l)

  pub one_to : (f g : ℕ) → f < n → g < n → S.to f ≡ S.to g → f ≡ g
  one_to f g lf lg e = sym (S.back f lf) ∙ ap S.from e ∙ S.back g lg

  pub any_sim : (P : Use → Bool) → any n (λ (f : ℕ). P (u f)) ≡ any n (λ (f : ℕ). P (what f))
  any_sim P =
      both_ways (any n (λ (f : ℕ). P (u f))) (any n (λ (f : ℕ). P (what f)))
      (λ t. let q = any_some n (λ (f : ℕ). P (u f)) t in any_from n (λ (f : ℕ). P (what f)) (S.from q.0) (S.from_in q.0 q.1) (subst (λ (x : Use). T (P x)) (uses_back q.0 q.1) q.2))
      (λ t. let q = any_some n (λ (f : ℕ). P (what f)) t in any_from n (λ (f : ℕ). P (u f)) (S.to q.0) (S.to_in q.0 q.1) (subst (λ (x : Use). T (P x)) (sym (S.uses q.0 q.1)) q.2))

  pub first_sim : (P : Use → Bool) → T (any n (λ (f : ℕ). P (what f))) → ((f g : ℕ) → f < n → g < n → T (P (what f)) → T (P (what g)) → f ≡ g) → first n (λ (f : ℕ). P (u f)) ≡ S.to (first n (λ (f : ℕ). P (what f)))
  first_sim P t one =
      let q = first_passes n (λ (f : ℕ). P (u f)) (subst T (sym (any_sim P)) t) in
      let r = first_passes n (λ (f : ℕ). P (what f)) t in
      let g : ℕ = first n (λ (f : ℕ). P (u f)) in
      let e : S.from g ≡ first n (λ (f : ℕ). P (what f)) = one (S.from g) (first n (λ (f : ℕ). P (what f))) (S.from_in g q.0) r.0 (subst (λ (x : Use). T (P x)) (uses_back g q.0) q.1) r.1 in
      sym (S.forth g q.0) ∙ ap S.to e

  -- every use is changed in the same way, and no new page is made
  pub sim_map : (h : Use → Use) → ((x : Use) → T (is_page (h x)) → T (is_page x)) → Sim n (λ f. h (what f)) word (λ g. h (u g)) w
  sim_map h p = record { to = S.to; from = S.from; to_in = S.to_in; from_in = S.from_in; back = S.back; forth = S.forth; uses = λ f l. ap h (S.uses f l); words = λ f k l t. S.words f k l (p (what f) t) }

  -- one frame is changed in the same way; where that is a page, it was one
  unfoldable pub sim_at : (f : ℕ) (x : Use) → f < n → (T (is_page x) → T (is_page (what f))) → Sim n (use_at f x what) word (use_at (S.to f) x u) w
  sim_at f x l p =
      record {
        to = S.to;
        from = S.from;
        to_in = S.to_in;
        from_in = S.from_in;
        back = S.back;
        forth = S.forth;
        uses = λ g lg. at_one (λ (y : Use). use_at (S.to f) x u (S.to g) ≡ y) g f x (what g)
            (λ e. taken_one (eqb (S.to g) (S.to f)) x (u (S.to g)) (same_number (S.to g) (S.to f) (ap S.to e)))
            (λ d. there (S.to g) (S.to f) x (u (S.to g)) (λ e. d (one_to g f lg l e)) ∙ S.uses g lg);
        words = λ g k lg. at_one (λ (y : Use). T (is_page y) → w (S.to g) k ≡ word g k) g f x (what g) (λ e t. S.words g k lg (subst (λ (z : ℕ). T (is_page (what z))) (sym e) (p t))) (λ _ t. S.words g k lg t);
      }

  -- a word of one frame is changed in the same way
  pub sim_word : (f k x : ℕ) → f < n → Sim n what (λ g j. cond (eqb g f && eqb j k) x (word g j)) u (λ g j. cond (eqb g (S.to f) && eqb j k) x (w g j))
  sim_word f k x l =
      record {
        to = S.to;
        from = S.from;
        to_in = S.to_in;
        from_in = S.from_in;
        back = S.back;
        forth = S.forth;
        uses = S.uses;
        words = λ g j lg t.
            let e : eqb (S.to g) (S.to f) ≡ eqb g f = both_ways (eqb (S.to g) (S.to f)) (eqb g f) (λ q. same_number g f (one_to g f lg l (eqb→eq (S.to g) (S.to f) q))) (λ q. same_number (S.to g) (S.to f) (ap S.to (eqb→eq g f q))) in
            ap (λ (b : Bool). cond (b && eqb j k) x (w (S.to g) j)) e ∙ ap (λ (y : ℕ). cond (eqb g f && eqb j k) x y) (S.words g j lg t);
      }

  -- a frame is noughts, and may become a page
  pub sim_noughts : (f : ℕ) (x : Use) → f < n → Sim n (use_at f x what) (λ g k. cond (eqb g f) 0 (word g k)) (use_at (S.to f) x u) (λ g k. cond (eqb g (S.to f)) 0 (w g k))
  sim_noughts f x l =
      record {
        to = S.to;
        from = S.from;
        to_in = S.to_in;
        from_in = S.from_in;
        back = S.back;
        forth = S.forth;
        uses = λ g lg. at_one (λ (y : Use). use_at (S.to f) x u (S.to g) ≡ y) g f x (what g)
            (λ e. taken_one (eqb (S.to g) (S.to f)) x (u (S.to g)) (same_number (S.to g) (S.to f) (ap S.to e)))
            (λ d. there (S.to g) (S.to f) x (u (S.to g)) (λ e. d (one_to g f lg l e)) ∙ S.uses g lg);
        words = λ g k lg. at_one (λ (y : Use). T (is_page y) → cond (eqb (S.to g) (S.to f)) 0 (w (S.to g) k) ≡ cond (eqb g f) 0 (word g k)) g f x (what g)
            (λ e t. taken_one (eqb (S.to g) (S.to f)) 0 (w (S.to g) k) (same_number (S.to g) (S.to f) (ap S.to e)) ∙ sym (taken_one (eqb g f) 0 (word g k) (same_number g f e)))
            (λ d t. there (S.to g) (S.to f) 0 (w (S.to g) k) (λ e. d (one_to g f lg l e)) ∙ S.words g k lg t ∙ sym (there g f 0 (word g k) d));
      }

  -- two idle frames are told apart by nothing
  pub sim_swap : (f g : ℕ) → f < n → g < n → T (is_idle (what f)) → T (is_idle (u g)) → (Z : Sim n what word u w) × (Z.to f ≡ g)
  unfolding is_idle
  sim_swap f g lf lg p q =
      let a : ℕ = S.to f in
      let la : a < n = S.to_in f lf in
      let idle_one : (x : Use) → T (is_idle x) → x ≡ Idle = idle_is in (
        record {
          to = λ x. swap a g (S.to x);
          from = λ y. S.from (swap a g y);
          to_in = λ x l. swap_in n a g (S.to x) la lg (S.to_in x l);
          from_in = λ y l. S.from_in (swap a g y) (swap_in n a g y la lg l);
          back = λ x l. ap S.from (swap_again a g (S.to x)) ∙ S.back x l;
          forth = λ y l. ap (swap a g) (S.forth (swap a g y) (swap_in n a g y la lg l)) ∙ swap_again a g y;
          uses = λ x l.
              ⊎_elim (λ (e : S.to x ≡ a). ap u (swap_one a g (S.to x) e) ∙ idle_one (u g) q ∙ sym (idle_one (what f) p) ∙ ap what (one_to f x lf l (sym e)))
              (λ (d : S.to x ≡ a → ⊥). ⊎_elim (λ (e : S.to x ≡ g). ap u (swap_two a g (S.to x) e) ∙ S.uses f lf ∙ idle_one (what f) p ∙ sym (idle_one (u g) q) ∙ ap u (sym e) ∙ S.uses x l)
              (λ (c : S.to x ≡ g → ⊥). ap u (swap_rest a g (S.to x) d c) ∙ S.uses x l) (cases_eq (S.to x) g)) (cases_eq (S.to x) a);
          words = λ x k l t.
              ap (λ (y : ℕ). w y k) (swap_rest a g (S.to x)
              (λ e. idle_no_page (what f) p (subst (λ (z : ℕ). T (is_page (what z))) (sym (one_to f x lf l (sym e))) t))
              (λ e. idle_no_page (u g) q (subst (λ (y : Use). T (is_page y)) (sym (S.uses x l) ∙ ap u e) t))) ∙ S.words x k l t;
        },
        swap_one a g (S.to f) refl,
      )
    where
      idle_is : (x : Use) → T (is_idle x) → x ≡ Idle
      idle_is House t = absurd t
      idle_is (TableOf d) t = absurd t
      idle_is Idle t = refl
      idle_is (Of c v l) t = absurd t

-- the same state with other uses and words
abbrev pub put : (ℕ → Use) → (ℕ → ℕ → ℕ) → State → State
put u w s = set_word w (set_use u s)

pub record Like (s t : State) : Type 0 where
  pub u : ℕ → Use
  pub w : ℕ → ℕ → ℕ
  pub is : t ≡ put u w s
  pub sim : Sim s.frames s.what s.word u w

pub record Matched (o p : Out) : Type 0 where
  pub answer : p.answer ≡ o.answer
  pub like : Like o.state p.state

or_else_same : (a b : Bool) (k x y : ℕ) → a ≡ b → (T (not b) → x ≡ y) → cond a k x ≡ cond b k y
or_else_same a true k x y e h = ap (λ (z : Bool). cond z k x) e
or_else_same a false k x y e h = ap (λ (z : Bool). cond z k x) e ∙ h tt

two_ways : {A : Type 0} (P : A → A → Type 0) (b : Bool) (x y x' y' : A) → (T b → P x x') → (T (not b) → P y y') → P (cond b x y) (cond b x' y')
two_ways P true x y x' y' p q = p tt
two_ways P false x y x' y' p q = q tt

shut_page : (d : ℕ) (x : Use) → T (is_page (no_table d (map_loan (home_from d) x))) → T (is_page x)
shut_page d x t = fewer_pages x _ (shut_fewer d x) t

shutting_page : (d : ℕ) (x : Use) → T (is_page (map_loan (leaving_from d) x)) → T (is_page x)
shutting_page d x t = fewer_pages x _ (shutting_fewer d x) t

pub like_shut : (d : ℕ) (s t : State) → Like s t → Like (shut d s) (shut d t)
like_shut d s t L =
    record { u = λ g. no_table d (map_loan (home_from d) (L.u g)); w = L.w; is = ap (shut d) L.is; sim = sim_map s.frames s.what s.word L.u L.w L.sim (λ x. no_table d (map_loan (home_from d) x)) (shut_page d) }

pub like_shutting : (d : ℕ) (s t : State) → Like s t → Like (shutting d s) (shutting d t)
like_shutting d s t L =
    record { u = λ g. map_loan (leaving_from d) (L.u g); w = L.w; is = ap (shutting d) L.is; sim = sim_map s.frames s.what s.word L.u L.w L.sim (map_loan (leaving_from d)) (shutting_page d) }

module _ (s : State) (u : ℕ → Use) (w : ℕ → ℕ → ℕ) (S : Sim s.frames s.what s.word u w) where
  abbrev pub t : State
  t = put u w s

  self : Like s t
  self = record { u = u; w = w; is = refl; sim = S }

  pub like_shut_all : (n c : ℕ) → Like (shut_all n c s) (shut_all n c t)
  unfolding shut_all
  like_shut_all zero c = self
  like_shut_all (suc n) c =
      let r : Like (shut_all n c s) (shut_all n c t) = like_shut_all n c in
      two_ways Like (owner_is c (s.dev n)) _ _ _ _ (λ _. two_ways Like (is_in n s.drained) _ _ _ _ (λ _. like_shut n (shut_all n c s) (shut_all n c t) r) (λ _. like_shutting n (shut_all n c s) (shut_all n c t) r)) (λ _. r)

  pub has_sim : (c v : ℕ) → has t c v ≡ has s c v
  has_sim c v = any_sim s.frames s.what s.word u w S (is_of c v)

  pub full_sim : full t ≡ full s
  full_sim = ap not (any_sim s.frames s.what s.word u w S is_idle)

  module _ (G : Fine s) where
    pub frame_sim : (c v : ℕ) → T (has s c v) → frame_of t c v ≡ S.to (frame_of s c v)
    frame_sim c v h = first_sim s.frames s.what s.word u w S (is_of c v) h (λ f g lf lg. G.place c v f g lf lg)

    pub loan_sim : (c v : ℕ) → T (has s c v) → loan t c v ≡ loan s c v
    loan_sim c v h = ap (λ (f : ℕ). loan_of (u f)) (frame_sim c v h) ∙ ap loan_of (S.uses (frame_of s c v) (found s c v h).0)

    pub why_sim : (c : ℕ) (k : Call) → why t c k ≡ why s c k
    unfolding why
    why_sim c (Get v) = or_else_same (leb 1024 v) (leb 1024 v) 1 _ _ refl (λ _. or_else_same (Meaning.taken t c v) (Meaning.taken s c v) 3 _ _ (ap (λ (b : Bool). b || not (eqb (s.regs c v) 0)) (has_sim c v)) (λ _. or_else_same (full t) (full s) 7 0 0 full_sim (λ _. refl)))
    why_sim c (Free v) =
        or_else_same (leb 1024 v) (leb 1024 v) 1 _ _ refl (λ _. or_else_same (not (has t c v)) (not (has s c v)) 2 _ _ (ap not (has_sim c v)) (λ h. or_else_same (not (is_home (loan t c v))) (not (is_home (loan s c v))) 4 0 0 (ap (λ (l : Loan). not (is_home l)) (loan_sim c v (not_not (has s c v) h))) (λ _. refl)))
    why_sim c (Give v x y) =
        or_else_same (leb 1024 v || leb 32 x || leb 1024 y) (leb 1024 v || leb 32 x || leb 1024 y) 1 _ _ refl (λ _. or_else_same (not (has t c v)) (not (has s c v)) 2 _ _ (ap not (has_sim c v))
        (λ h. or_else_same (Meaning.taken t x y) (Meaning.taken s x y) 3 _ _ (ap (λ (b : Bool). b || not (eqb (s.regs x y) 0)) (has_sim x y)) (λ _. or_else_same (not (is_home (loan t c v))) (not (is_home (loan s c v))) 4 0 0 (ap (λ (l : Loan). not (is_home l)) (loan_sim c v (not_not (has s c v) h))) (λ _. refl))))
    why_sim c (Open d) =
        or_else_same (leb s.devices d) (leb s.devices d) 1 _ _ refl (λ _. or_else_same (not (eqb (s.driver d) c)) (not (eqb (s.driver d) c)) 5 _ _ refl
        (λ _. or_else_same (not (Meaning.is_shut (s.dev d)) || Meaning.foreign s c d) (not (Meaning.is_shut (s.dev d)) || Meaning.foreign s c d) 6 _ _ refl (λ _. or_else_same (full t) (full s) 7 0 0 full_sim (λ _. refl))))
    why_sim c (Close d) = refl
    why_sim c (Regs d v) =
        or_else_same (leb s.devices d || leb 1024 v) (leb s.devices d || leb 1024 v) 1 _ _ refl (λ _. or_else_same (Meaning.taken t c v) (Meaning.taken s c v) 3 _ _ (ap (λ (b : Bool). b || not (eqb (s.regs c v) 0)) (has_sim c v)) (λ _. refl))
    why_sim c (Lend v d p b) =
        or_else_same (leb 1024 v || leb s.devices d || leb 262144 p) (leb 1024 v || leb s.devices d || leb 262144 p) 1 _ _ refl (λ _. or_else_same (not (has t c v)) (not (has s c v)) 2 _ _ (ap not (has_sim c v))
        (λ h. or_else_same (used t d p) (used s d p) 3 _ _ (any_sim s.frames s.what s.word u w S (λ (x : Use). is_at d p (loan_of x)))
        (λ _. or_else_same (not (is_home (loan t c v))) (not (is_home (loan s c v))) 4 _ _ (ap (λ (l : Loan). not (is_home l)) (loan_sim c v (not_not (has s c v) h)))
        (λ _. or_else_same (not (open_by c (s.dev d))) (not (open_by c (s.dev d))) 5 _ _ refl
        (λ _. or_else_same (not (s.slots d (p / 512)) && full t) (not (s.slots d (p / 512)) && full s) 7 0 0 (ap (λ (x : Bool). not (s.slots d (p / 512)) && x) full_sim) (λ _. refl))))))
    why_sim c (Recall v) =
        or_else_same (leb 1024 v) (leb 1024 v) 1 _ _ refl (λ _. or_else_same (not (has t c v)) (not (has s c v)) 2 _ _ (ap not (has_sim c v)) (λ h. or_else_same (is_home (loan t c v)) (is_home (loan s c v)) 4 0 0 (ap is_home (loan_sim c v (not_not (has s c v) h))) (λ _. refl)))
    why_sim c (End x) = refl
