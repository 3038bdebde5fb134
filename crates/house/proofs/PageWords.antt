-- The words of pages under the keeper's changes. Assumes nothing.
use Rattle.std.proofs.Common.{◌≡◌, ℕ, ◌<◌, cond, not, T, eqb, ◌⊎◌, sym, refl, ap, ◌∙◌, subst, inl, ⊎_elim, T_not}
use Rattle.std.proofs.lemmas.Bool.{eq-eqb}
use Rattle.house.specs.Machine.{put}
use Rattle.house.specs.Meaning.{Loan, Use, House, TableOf, Idle, Of, use_at, map_loan, home_from, no_table, not_of}
use Rattle.house.specs.Sound.{View, Words, is_page}
use Rattle.house.proofs.Facts.{with_uses, put_elsewhere}
use Rattle.house.proofs.Shelf.{at_one, there}
use Rattle.house.proofs.Uses.{pageless}

-- a page has an owner, a place and a loan
pub page_is : (x : Use) → T (is_page x) → (c : ℕ) × (u : ℕ) × (l : Loan) × (x ≡ Of c u l)
unfolding is_page
page_is House t = absurd t
page_is (TableOf d) t = absurd t
page_is Idle t = absurd t
page_is (Of c u l) t = (c, u, l, refl)

pub is_page_of : (x : Use) (c u : ℕ) (l : Loan) → x ≡ Of c u l → T (is_page x)
unfolding is_page
is_page_of x c u l e = rw e tt

loans_page : (g : Loan → Loan) (x : Use) (c u : ℕ) (l : Loan) → map_loan g x ≡ Of c u l → T (is_page x)
unfolding map_loan is_page
loans_page g House c u l e = subst pageless e tt
loans_page g (TableOf d) c u l e = subst pageless e tt
loans_page g Idle c u l e = subst pageless e tt
loans_page g (Of a b m) c u l e = tt

shut_page : (d : ℕ) (x : Use) (c u : ℕ) (l : Loan) → no_table d (map_loan (home_from d) x) ≡ Of c u l → T (is_page x)
unfolding map_loan no_table is_page
shut_page d House c u l e = subst pageless e tt
shut_page d (TableOf a) c u l e = subst pageless e (at_one pageless d a Idle (TableOf a) (λ _. tt) (λ _. tt))
shut_page d Idle c u l e = subst pageless e tt
shut_page d (Of a b m) c u l e = tt

gone_page : (o : ℕ) (x : Use) (c u : ℕ) (l : Loan) → not_of o x ≡ Of c u l → T (is_page x)
unfolding not_of is_page
gone_page o House c u l e = subst pageless e tt
gone_page o (TableOf d) c u l e = subst pageless e tt
gone_page o Idle c u l e = subst pageless e tt
gone_page o (Of a b m) c u l e = tt

module _ (v : View) {word mem : ℕ → ℕ → ℕ} (w : Words v word mem) where
  -- uses change; a page was one, or its words are those in memory
  pub words_uses : (what2 : ℕ → Use) → ((f c u : ℕ) (l : Loan) → f < v.frames → what2 f ≡ Of c u l → T (is_page (v.what f)) ⊎ ((k : ℕ) → k < 512 → word f k ≡ mem f k)) → Words (with_uses what2 v) word mem
  words_uses what2 was f c u k l b e h =
      ⊎_elim (λ p. let r = page_is (v.what f) p in w f r.0 r.1 k r.2 b r.3 h) (λ (g : (j : ℕ) → j < 512 → word f j ≡ mem f j). g k h) (was f c u l b e)

  -- one frame's use changes
  pub words_use : (f : ℕ) (new : Use) → ((c u : ℕ) (l : Loan) → f < v.frames → new ≡ Of c u l → T (is_page (v.what f)) ⊎ ((k : ℕ) → k < 512 → word f k ≡ mem f k)) → Words (with_uses (use_at f new v.what) v) word mem
  words_use f new was =
      words_uses (use_at f new v.what) (λ g c u l b. at_one (λ (x : Use). x ≡ Of c u l → T (is_page (v.what g)) ⊎ ((k : ℕ) → k < 512 → word g k ≡ mem g k)) g f new (v.what g)
      (λ z e. subst (λ (x : ℕ). T (is_page (v.what x)) ⊎ ((k : ℕ) → k < 512 → word x k ≡ mem x k)) (sym z) (was c u l (subst (λ (x : ℕ). x < v.frames) z b) e))
      (λ _ e. inl (is_page_of (v.what g) c u l e)))

  -- a page stays somebody's
  pub words_page : (f c u : ℕ) (l : Loan) (new : Use) → v.what f ≡ Of c u l → Words (with_uses (use_at f new v.what) v) word mem
  words_page f c u l new is = words_use f new (λ _ _ _ _ _. inl (is_page_of (v.what f) c u l is))

  -- a frame becomes nobody's page
  pub words_none : (f : ℕ) (new : Use) → T (not (is_page new)) → Words (with_uses (use_at f new v.what) v) word mem
  words_none f new n = words_use f new (λ c u l _ e. absurd (T_not (is_page new) n (is_page_of new c u l e)))

  -- loans change
  pub words_loans : (g : Loan → Loan) → Words (with_uses (λ f. map_loan g (v.what f)) v) word mem
  words_loans g = words_uses (λ f. map_loan g (v.what f)) (λ f c u l _ e. inl (loans_page g (v.what f) c u l e))

  pub words_shut : (d : ℕ) → Words (with_uses (λ f. no_table d (map_loan (home_from d) (v.what f))) v) word mem
  words_shut d = words_uses (λ f. no_table d (map_loan (home_from d) (v.what f))) (λ f c u l _ e. inl (shut_page d (v.what f) c u l e))

  pub words_gone : (o : ℕ) → Words (with_uses (λ f. not_of o (v.what f)) v) word mem
  words_gone o = words_uses (λ f. not_of o (v.what f)) (λ f c u l _ e. inl (gone_page o (v.what f) c u l e))

  -- memory changes where there is no page
  pub words_mem : (mem2 : ℕ → ℕ → ℕ) → ((g k : ℕ) → T (is_page (v.what g)) → mem2 g k ≡ mem g k) → Words v word mem2
  words_mem mem2 same f c u k l b e h = w f c u k l b e h ∙ sym (same f k (is_page_of (v.what f) c u l e))

  pub words_put : (f k x : ℕ) → T (not (is_page (v.what f))) → Words v word (put f k x mem)
  words_put f k x n = words_mem (put f k x mem) (λ g j p. put_elsewhere f k x mem g j (λ z. T_not (is_page (v.what f)) n (subst (λ (y : ℕ). T (is_page (v.what y))) z p)))

  -- a new page is noughts
  pub words_get : (f : ℕ) (new : Use) → ((k : ℕ) → k < 512 → mem f k ≡ 0) → Words (with_uses (use_at f new v.what) v) (λ g k. cond (eqb g f) 0 (word g k)) mem
  words_get f new zeros g c u k l b =
      at_one (λ (x : Use). x ≡ Of c u l → k < 512 → cond (eqb g f) 0 (word g k) ≡ mem g k) g f new (v.what g)
      (λ z e h. rw (eq-eqb g f z) (sym (ap (λ (y : ℕ). mem y k) z ∙ zeros k h)))
      (λ n e h. there g f 0 (word g k) n ∙ w g c u k l b e h)
