-- Uses, loans and devices one by one: what a change of one leaves. Assumes nothing.
use Rattle.std.proofs.Common.{◌≡◌, ℕ, zero, suc, ◌<◌, cond, not, T, eqb, sym, ap, ◌∙◌, subst, eqb→eq}
use lib.Dec.{eqb_refl}
use Rattle.house.specs.Meaning.{Loan, Home, Lent, Leaving, Use, House, TableOf, Idle, Of, Dev, Shut, Opened, Closing, State, is_of, loan_of, is_at, owner_is, open_by, is_shut, has, frame_of, loan, leaving, home_from, leaving_from, map_loan, no_table, closing, not_of, shut, shutting, shut_all}
use Rattle.house.proofs.Shelf.{both, pair, choose, at_one, first_passes, differ}

-- whose page it is, from the test
pub page_of : (c v : ℕ) (u : Use) → T (is_of c v u) → (l : Loan) × (u ≡ Of c v l)
unfolding is_of
page_of c v House t = absurd t
page_of c v (TableOf d) t = absurd t
page_of c v Idle t = absurd t
page_of c v (Of w u l) t =
    let e : c ≡ w = eqb→eq c w (both (eqb c w) (eqb v u) t).0 in
    let g : v ≡ u = eqb→eq v u (both (eqb c w) (eqb v u) t).1 in
    (l, cc)

pub of_page : (c v : ℕ) (l : Loan) → T (is_of c v (Of c v l))
unfolding is_of
of_page c v l = pair (eqb c c) (eqb v v) (eqb_refl c) (eqb_refl v)

pub of_same : (c v w u : ℕ) (l : Loan) → T (is_of c v (Of w u l)) → (c ≡ w) × (v ≡ u)
unfolding is_of
of_same c v w u l t = (eqb→eq c w (both (eqb c w) (eqb v u) t).0, eqb→eq v u (both (eqb c w) (eqb v u) t).1)

-- one's page is in memory, and is one's page
pub found : (s : State) (c v : ℕ) → T (has s c v) → (frame_of s c v < s.frames) × T (is_of c v (s.what (frame_of s c v)))
found s c v t = first_passes s.frames (λ (f : ℕ). is_of c v (s.what f)) t

pub found_is : (s : State) (c v : ℕ) → T (has s c v) → s.what (frame_of s c v) ≡ Of c v (loan s c v)
unfolding loan_of
found_is s c v t = let r = page_of c v (s.what (frame_of s c v)) (found s c v t).1 in cc (r.1, ap loan_of r.1)

-- who has a device is one
pub one_owner : (d : Dev) (c b : ℕ) → T (owner_is c d) → T (owner_is b d) → c ≡ b
unfolding owner_is
one_owner Shut c b p q = absurd p
one_owner (Opened w) c b p q = eqb→eq c w p ∙ sym (eqb→eq b w q)
one_owner (Closing w) c b p q = eqb→eq c w p ∙ sym (eqb→eq b w q)

pub open_owns : (d : Dev) (c : ℕ) → T (open_by c d) → T (owner_is c d)
unfolding owner_is open_by
open_owns Shut c p = p
open_owns (Opened w) c p = p
open_owns (Closing w) c p = absurd p

pub shut_unowned : (d : Dev) (c : ℕ) → T (is_shut d) → T (owner_is c d) → ⊥
unfolding owner_is is_shut
shut_unowned Shut c t p = p
shut_unowned (Opened w) c t p = t
shut_unowned (Closing w) c t p = t

pub owned_not_shut : (d : Dev) (c : ℕ) → T (owner_is c d) → T (not (is_shut d))
unfolding owner_is is_shut
owned_not_shut Shut c p = absurd p
owned_not_shut (Opened w) c p = tt
owned_not_shut (Closing w) c p = tt

pub closing_owner : (d : Dev) (c : ℕ) → T (owner_is c (closing d)) → T (owner_is c d)
unfolding owner_is closing
closing_owner Shut c p = p
closing_owner (Opened w) c p = p
closing_owner (Closing w) c p = p

pub owner_closing : (d : Dev) (c : ℕ) → T (owner_is c d) → T (owner_is c (closing d))
unfolding owner_is closing
owner_closing Shut c p = p
owner_closing (Opened w) c p = p
owner_closing (Closing w) c p = p

pub shut_is : T (is_shut Shut)
unfolding is_shut
shut_is = tt

pub closing_shut : (x : Dev) → T (is_shut x) → T (is_shut (closing x))
unfolding is_shut closing
closing_shut Shut t = t
closing_shut (Opened w) t = absurd t
closing_shut (Closing w) t = absurd t

-- b is nobody's page whose a isn't, and found at no page of a device where a isn't
pub record Fewer (a b : Use) : Type 0 where
  pub owned : (c v : ℕ) → T (is_of c v b) → T (is_of c v a)
  pub lent : (d p : ℕ) → T (is_at d p (loan_of b)) → T (is_at d p (loan_of a))

pub same_use : (a : Use) → Fewer a a
same_use a = record { owned = λ c v t. t; lent = λ d p t. t }

pub fewer_then : (a b c : Use) → Fewer a b → Fewer b c → Fewer a c
fewer_then a b c p q = record { owned = λ w v t. p.owned w v (q.owned w v t); lent = λ d k t. p.lent d k (q.lent d k t) }

pub nothing_at : (d p : ℕ) → T (is_at d p Home) → ⊥
unfolding is_at
nothing_at d p t = t

homing : (d : ℕ) (l : Loan) (e p : ℕ) → T (is_at e p (home_from d l)) → T (is_at e p l)
unfolding is_at home_from
homing d Home e p = λ t. t
homing d (Lent a q w) e p = choose (λ (l : Loan). T (is_at e p l) → T (is_at e p (Lent a q w))) (eqb d a) Home (Lent a q w) (λ _ t. absurd t) (λ _ t. t)
homing d (Leaving a q w) e p = choose (λ (l : Loan). T (is_at e p l) → T (is_at e p (Leaving a q w))) (eqb d a) Home (Leaving a q w) (λ _ t. absurd t) (λ _ t. t)

pub leaving_at : (l : Loan) (e p : ℕ) → T (is_at e p (leaving l)) → T (is_at e p l)
unfolding is_at leaving
leaving_at Home e p t = t
leaving_at (Lent a q w) e p t = t
leaving_at (Leaving a q w) e p t = t

leaving_from_at : (d : ℕ) (l : Loan) (e p : ℕ) → T (is_at e p (leaving_from d l)) → T (is_at e p l)
unfolding is_at leaving_from
leaving_from_at d Home e p = λ t. t
leaving_from_at d (Lent a q w) e p = choose (λ (l : Loan). T (is_at e p l) → T (is_at e p (Lent a q w))) (eqb d a) (Leaving a q w) (Lent a q w) (λ _ t. t) (λ _ t. t)
leaving_from_at d (Leaving a q w) e p = λ t. t

-- a change of loans, by which nothing new is lent
pub map_fewer : (g : Loan → Loan) → ((l : Loan) (e p : ℕ) → T (is_at e p (g l)) → T (is_at e p l)) → (a : Use) → Fewer a (map_loan g a)
unfolding map_loan is_of loan_of
map_fewer g h House = same_use House
map_fewer g h (TableOf d) = same_use (TableOf d)
map_fewer g h Idle = same_use Idle
map_fewer g h (Of c v l) = record { owned = λ w u t. t; lent = λ e p t. h l e p t }

no_table_fewer : (d : ℕ) (a : Use) → Fewer a (no_table d a)
unfolding no_table is_of loan_of
no_table_fewer d House = same_use House
no_table_fewer d (TableOf e) = choose (λ (u : Use). Fewer (TableOf e) u) (eqb d e) Idle (TableOf e) (λ _. record { owned = λ c v t. t; lent = λ c v t. t }) (λ _. same_use (TableOf e))
no_table_fewer d Idle = same_use Idle
no_table_fewer d (Of c v l) = same_use (Of c v l)

pub shut_fewer : (d : ℕ) (a : Use) → Fewer a (no_table d (map_loan (home_from d) a))
shut_fewer d a = fewer_then a (map_loan (home_from d) a) (no_table d (map_loan (home_from d) a)) (map_fewer (home_from d) (homing d) a) (no_table_fewer d (map_loan (home_from d) a))

pub shutting_fewer : (d : ℕ) (a : Use) → Fewer a (map_loan (leaving_from d) a)
shutting_fewer d a = map_fewer (leaving_from d) (leaving_from_at d) a

pub not_of_fewer : (c : ℕ) (a : Use) → Fewer a (not_of c a)
unfolding not_of is_of loan_of is_at
not_of_fewer c House = same_use House
not_of_fewer c (TableOf d) = same_use (TableOf d)
not_of_fewer c Idle = same_use Idle
not_of_fewer c (Of w v l) = choose (λ (u : Use). Fewer (Of w v l) u) (eqb c w) Idle (Of w v l) (λ _. record { owned = λ b u t. absurd t; lent = λ b u t. absurd t }) (λ _. same_use (Of w v l))

-- what a loan asks of its device
abbrev pub Lawful : Use → (ℕ → Dev) → Type 0
Lawful House dev = Unit {0}
Lawful (TableOf d) dev = Unit {0}
Lawful Idle dev = Unit {0}
Lawful (Of c v Home) dev = Unit {0}
Lawful (Of c v (Lent d p w)) dev = T (open_by c (dev d))
Lawful (Of c v (Leaving d p w)) dev = T (owner_is c (dev d))

pub lawful_shut : (d : ℕ) (dev : ℕ → Dev) (a : Use) → Lawful a dev → Lawful (no_table d (map_loan (home_from d) a)) (λ e. cond (eqb e d) Shut (dev e))
unfolding no_table map_loan home_from
lawful_shut d dev House t = tt
lawful_shut d dev (TableOf e) t = choose (λ (u : Use). Lawful u (λ e. cond (eqb e d) Shut (dev e))) (eqb d e) Idle (TableOf e) (λ _. tt) (λ _. tt)
lawful_shut d dev Idle t = tt
lawful_shut d dev (Of c v Home) t = tt
lawful_shut d dev (Of c v (Lent e p w)) t =
    choose (λ (l : Loan). Lawful (Of c v l) (λ e. cond (eqb e d) Shut (dev e))) (eqb d e) Home (Lent e p w) (λ _. tt)
    (λ n. at_one (λ (x : Dev). T (open_by c x)) e d Shut (dev e) (λ q. absurd (differ d e n (sym q))) (λ _. t))
lawful_shut d dev (Of c v (Leaving e p w)) t =
    choose (λ (l : Loan). Lawful (Of c v l) (λ e. cond (eqb e d) Shut (dev e))) (eqb d e) Home (Leaving e p w) (λ _. tt)
    (λ n. at_one (λ (x : Dev). T (owner_is c x)) e d Shut (dev e) (λ q. absurd (differ d e n (sym q))) (λ _. t))

pub lawful_shutting : (d : ℕ) (dev : ℕ → Dev) (a : Use) → Lawful a dev → Lawful (map_loan (leaving_from d) a) (λ e. cond (eqb e d) (closing (dev e)) (dev e))
unfolding map_loan leaving_from
lawful_shutting d dev House t = tt
lawful_shutting d dev (TableOf e) t = tt
lawful_shutting d dev Idle t = tt
lawful_shutting d dev (Of c v Home) t = tt
lawful_shutting d dev (Of c v (Lent e p w)) t =
    choose (λ (l : Loan). Lawful (Of c v l) (λ e. cond (eqb e d) (closing (dev e)) (dev e))) (eqb d e) (Leaving e p w) (Lent e p w)
    (λ _. choose (λ (x : Dev). T (owner_is c x)) (eqb e d) (closing (dev e)) (dev e) (λ _. owner_closing (dev e) c (open_owns (dev e) c t)) (λ _. open_owns (dev e) c t))
    (λ n. at_one (λ (x : Dev). T (open_by c x)) e d (closing (dev e)) (dev e) (λ q. absurd (differ d e n (sym q))) (λ _. t))
lawful_shutting d dev (Of c v (Leaving e p w)) t =
    choose (λ (x : Dev). T (owner_is c x)) (eqb e d) (closing (dev e)) (dev e) (λ _. owner_closing (dev e) c t) (λ _. t)

pub lawful_leaving : (c v : ℕ) (l : Loan) (dev : ℕ → Dev) → Lawful (Of c v l) dev → Lawful (Of c v (leaving l)) dev
unfolding leaving
lawful_leaving c v Home dev t = t
lawful_leaving c v (Lent d p w) dev t = open_owns (dev d) c t
lawful_leaving c v (Leaving d p w) dev t = t

lawful_leaving_from : (d c v : ℕ) (l : Loan) (dev : ℕ → Dev) → Lawful (Of c v l) dev → Lawful (Of c v (leaving_from d l)) dev
unfolding leaving_from
lawful_leaving_from d c v Home dev t = t
lawful_leaving_from d c v (Lent e p w) dev t = choose (λ (l : Loan). Lawful (Of c v l) dev) (eqb d e) (Leaving e p w) (Lent e p w) (λ _. open_owns (dev e) c t) (λ _. t)
lawful_leaving_from d c v (Leaving e p w) dev t = t

pub lawful_map : (g : Loan → Loan) (dev : ℕ → Dev) → ((c v : ℕ) (l : Loan) → Lawful (Of c v l) dev → Lawful (Of c v (g l)) dev) → (a : Use) → Lawful a dev → Lawful (map_loan g a) dev
unfolding map_loan
lawful_map g dev h House t = tt
lawful_map g dev h (TableOf d) t = tt
lawful_map g dev h Idle t = tt
lawful_map g dev h (Of c v l) t = h c v l t

pub lawful_let_go : (d : ℕ) (dev : ℕ → Dev) (a : Use) → Lawful a dev → Lawful (map_loan (leaving_from d) a) dev
lawful_let_go d dev a t = lawful_map (leaving_from d) dev (λ c v l h. lawful_leaving_from d c v l dev h) a t

pub lawful_not_of : (c : ℕ) (dev : ℕ → Dev) (a : Use) → Lawful a dev → Lawful (not_of c a) dev
unfolding not_of
lawful_not_of c dev House t = tt
lawful_not_of c dev (TableOf d) t = tt
lawful_not_of c dev Idle t = tt
lawful_not_of c dev (Of w v l) t = choose (λ (u : Use). Lawful u dev) (eqb c w) Idle (Of w v l) (λ _. tt) (λ _. t)

-- a device that was shut is opened: nothing was lent to it
pub lawful_opened : (d c : ℕ) (dev : ℕ → Dev) → T (is_shut (dev d)) → (a : Use) → Lawful a dev → Lawful a (λ e. cond (eqb e d) (Opened c) (dev e))
lawful_opened d c dev z House t = tt
lawful_opened d c dev z (TableOf e) t = tt
lawful_opened d c dev z Idle t = tt
lawful_opened d c dev z (Of b v Home) t = tt
lawful_opened d c dev z (Of b v (Lent e p w)) t =
    at_one (λ (x : Dev). T (open_by b x)) e d (Opened c) (dev e) (λ q. absurd (shut_unowned (dev d) b z (open_owns (dev d) b (subst (λ (x : ℕ). T (open_by b (dev x))) q t)))) (λ _. t)
lawful_opened d c dev z (Of b v (Leaving e p w)) t =
    at_one (λ (x : Dev). T (owner_is b x)) e d (Opened c) (dev e) (λ q. absurd (shut_unowned (dev d) b z (subst (λ (x : ℕ). T (owner_is b (dev x))) q t))) (λ _. t)

-- by all that belong to one: what shutting one and letting one go keep, that keeps too
pub through_shut_all : (P : State → Type 0) → ((d : ℕ) (s : State) → P s → P (shut d s)) → ((d : ℕ) (s : State) → P s → P (shutting d s)) → (n c : ℕ) (s : State) → P s → P (shut_all n c s)
unfolding shut_all
through_shut_all P p q zero c s h = h
through_shut_all P p q (suc n) c s h =
    let r : P (shut_all n c s) = through_shut_all P p q n c s h in
    choose P (owner_is c (s.dev n)) _ (shut_all n c s)
    (λ _. choose P (Rattle.house.specs.Meaning.is_in n s.drained) (shut n (shut_all n c s)) (shutting n (shut_all n c s)) (λ _. p n (shut_all n c s) r) (λ _. q n (shut_all n c s) r))
    (λ _. r)
