-- What is read as a line writes that line.
use Rattle.std.proofs.Common.{◌≡◌, ℕ, Bool, true, false, cond, ◌⊎◌, List, [], ◌∷◌, Some, None, codes, Option, sym, refl, ap, ◌∙◌, subst, inl, inr, ⊎_elim}
use Rattle.std.specs.Option.{option_map}
use Rattle.std.specs.Str.{bytes_eq}
use Rattle.std.proofs.lemmas.Bool.{false≢true}
use Rattle.std.proofs.lemmas.Option.{none-some, cond_some}
use Rattle.std.proofs.lemmas.Slice.Eq.{bytes_eq-Decides}
use Rattle.script.specs.Decimal.{index_of, exact_of}
use Rattle.script.specs.Language.{Part, text, index, exact, Written, access, request_parts, parts_of}
use Rattle.script.specs.Parser.{mode_of, give_of, regs_of, lend_of, request_of, load_of, store_of, program_of, way_of, access_of, keep_of, kept_way, kept_of, machine_of, head_of, sentence_of}
use Rattle.script.specs.Parts.{and_then, first, later, alone, at_end, last_of}
use Rattle.script.specs.declared.forms.Line.{Line}
use Rattle.script.specs.declared.forms.Line.TheVariants.{Call, Store, Load, Read, Write, Keep, Kept, Refuse, Seed, New}
use Rattle.script.specs.declared.forms.Request.{Request}
use Rattle.script.specs.declared.forms.Request.TheVariants.{Get, Free, Give, Open, Close, Regs, Lend, Recall, End}

abbrev Words : Type 0
Words = List (List ℕ)

-- Where something came of several steps, it came of each.
bound : {A B : Type 0} (o : Option A) (f : A → Option B) (b : B) → and_then o f ≡ Some b → (a : A) × (o ≡ Some a) × (f a ≡ Some b)
bound None f b e = absurd (none-some b e)
bound (Some a) f b e = (a, refl, e)

made : {A B : Type 0} (o : Option A) (f : A → B) (b : B) → option_map f o ≡ Some b → (a : A) × (o ≡ Some a) × (f a ≡ b)
made None f b e = absurd (none-some b e)
made (Some a) f b e = (a, refl, cc)

by_test : {A : Type 0} (t : Bool) (x y : Option A) (a : A) → cond t x y ≡ Some a → ((t ≡ true) × (x ≡ Some a)) ⊎ (y ≡ Some a)
by_test true x y a e = inl (refl, e)
by_test false x y a e = inr e

-- By the text of a word: it is t, or the rest was read.
by_text : {A : Type 0} (w t : List ℕ) (x y : Option A) (a : A) → cond (bytes_eq w t) x y ≡ Some a → ((w ≡ t) × (x ≡ Some a)) ⊎ (y ≡ Some a)
by_text w t x y a e =
    ⊎_elim (λ h. inl ((bytes_eq-Decides w t).0 h.0, h.1)) (λ h. inr h) (by_test (bytes_eq w t) x y a e)

-- Words against parts.
index_first : (n : ℕ) (ps : List Part) (ws : Words) → first index_of ws ≡ Some n → Written ps (later ws) → Written (index n ∷ ps) ws
index_first n ps [] e h = absurd (none-some n e)
index_first n ps (w ∷ ws) e h = (e, h)

ended : (ws : Words) → at_end ws ≡ true → Written [] ws
ended [] e = tt
ended (w ∷ ws) e = absurd (false≢true e)

index_only : (n : ℕ) (ws : Words) → last_of index_of ws ≡ Some n → Written (index n ∷ []) ws
index_only n ws e =
    let b = bound (first index_of ws) _ n e in
    let k = cond_some _ b.0 n b.2 in
    index_first n [] ws (b.1 ∙ ap (λ m. Some m) k.1) (ended (later ws) k.0)

exact_only : (n : ℕ) (ws : Words) → last_of exact_of ws ≡ Some n → Written (exact n ∷ []) ws
exact_only n [] e = absurd (none-some n e)
exact_only n (w ∷ ws) e =
    let b = bound (exact_of w) _ n e in
    let k = cond_some _ b.0 n b.2 in
    (b.1 ∙ ap (λ m. Some m) k.1, ended ws k.0)

mode_text : (w : List ℕ) (m : Bool) → mode_of w ≡ Some m → w ≡ access m
mode_text w m e =
    ⊎_elim (λ h. let same : true ≡ m = cc in h.0 ∙ ap access same)
    (λ f. ⊎_elim (λ h. let same : false ≡ m = cc in h.0 ∙ ap access same) (λ n. absurd (none-some m n)) (by_text w (codes "r") (Some false) None m f))
    (by_text w (codes "w") (Some true) (cond (bytes_eq w (codes "r")) (Some false) None) m e)

mode_only : (m : Bool) (ws : Words) → last_of mode_of ws ≡ Some m → Written (text (access m) ∷ []) ws
mode_only m [] e = absurd (none-some m e)
mode_only m (w ∷ ws) e =
    let b = bound (mode_of w) _ m e in
    let k = cond_some _ b.0 m b.2 in
    (mode_text w m (b.1 ∙ ap (λ m. Some m) k.1), ended ws k.0)

-- A request's words after the program's number, its verb first.
abbrev Asks : List ℕ → Words → Request → Type 0
Asks verb ws q = Written (request_parts q) (verb ∷ ws)

asks_one : (f : ℕ → Request) (t verb : List ℕ) (ws : Words) (q : Request) → ((n : ℕ) → request_parts (f n) ≡ text t ∷ index n ∷ []) → (verb ≡ t) × (option_map f (last_of index_of ws) ≡ Some q) → Asks verb ws q
asks_one f t verb ws q parts e =
    let m = made (last_of index_of ws) f q e.1 in
    let words : Written (text t ∷ index m.0 ∷ []) (verb ∷ ws) = (e.0, index_only m.0 ws m.1) in
    subst (Asks verb ws) m.2 (subst (λ (ps : List Part). Written ps (verb ∷ ws)) (sym (parts m.0)) words)

asks_give : (verb : List ℕ) (ws : Words) (q : Request) → verb ≡ codes "give" → give_of ws ≡ Some q → Asks verb ws q
asks_give verb ws q v e =
    let a = bound (first index_of ws) _ q e in
    let b = bound (first index_of (later ws)) _ q a.2 in
    let m = made (last_of index_of (later (later ws))) (λ at. Give a.0 b.0 at) q b.2 in
    subst (Asks verb ws) m.2
    (v, index_first a.0 (index b.0 ∷ index m.0 ∷ []) ws a.1 (index_first b.0 (index m.0 ∷ []) (later ws) b.1 (index_only m.0 (later (later ws)) m.1)))

asks_regs : (verb : List ℕ) (ws : Words) (q : Request) → verb ≡ codes "regs" → regs_of ws ≡ Some q → Asks verb ws q
asks_regs verb ws q v e =
    let a = bound (first index_of ws) _ q e in
    let m = made (last_of index_of (later ws)) (λ v. Regs a.0 v) q a.2 in
    subst (Asks verb ws) m.2 (v, index_first a.0 (index m.0 ∷ []) ws a.1 (index_only m.0 (later ws) m.1))

asks_lend : (verb : List ℕ) (ws : Words) (q : Request) → verb ≡ codes "lend" → lend_of ws ≡ Some q → Asks verb ws q
asks_lend verb ws q v e =
    let a = bound (first index_of ws) _ q e in
    let b = bound (first index_of (later ws)) _ q a.2 in
    let f = bound (first index_of (later (later ws))) _ q b.2 in
    let m = made (last_of mode_of (later (later (later ws)))) (λ m. Lend a.0 b.0 f.0 m) q f.2 in
    subst (Asks verb ws) m.2 (
      v,
      index_first a.0 (index b.0 ∷ index f.0 ∷ text (access m.0) ∷ []) ws a.1
          (index_first b.0 (index f.0 ∷ text (access m.0) ∷ []) (later ws) b.1
          (index_first f.0 (text (access m.0) ∷ []) (later (later ws)) f.1 (mode_only m.0 (later (later (later ws))) m.1))),
    )

request_sound : (verb : List ℕ) (ws : Words) (q : Request) → request_of verb ws ≡ Some q → Asks verb ws q
request_sound verb ws q e =
    ⊎_elim (asks_one (λ v. Get v) (codes "get") verb ws q (λ n. refl)) (λ e1.
    ⊎_elim (asks_one (λ v. Free v) (codes "free") verb ws q (λ n. refl)) (λ e2.
    ⊎_elim (λ h. asks_give verb ws q h.0 h.1) (λ e3.
    ⊎_elim (asks_one (λ d. Open d) (codes "open") verb ws q (λ n. refl)) (λ e4.
    ⊎_elim (asks_one (λ d. Close d) (codes "close") verb ws q (λ n. refl)) (λ e5.
    ⊎_elim (λ h. asks_regs verb ws q h.0 h.1) (λ e6.
    ⊎_elim (λ h. asks_lend verb ws q h.0 h.1) (λ e7.
    ⊎_elim (asks_one (λ v. Recall v) (codes "recall") verb ws q (λ n. refl)) (λ e8.
    ⊎_elim (asks_one (λ w. End w) (codes "end") verb ws q (λ n. refl)) (λ e9. absurd (none-some q e9))
    (by_text verb (codes "end") _ _ q e8))
    (by_text verb (codes "recall") _ _ q e7))
    (by_text verb (codes "lend") _ _ q e6))
    (by_text verb (codes "regs") _ _ q e5))
    (by_text verb (codes "close") _ _ q e4))
    (by_text verb (codes "open") _ _ q e3))
    (by_text verb (codes "give") _ _ q e2))
    (by_text verb (codes "free") _ _ q e1))
    (by_text verb (codes "get") _ _ q e)

-- A program's words, its number first; the number is read already.
abbrev Says : ℕ → Words → Line → Type 0
Says who ws l = (first : List ℕ) → index_of first ≡ Some who → Written (parts_of l) (first ∷ ws)

program_load : (who : ℕ) (verb : List ℕ) (ws : Words) (l : Line) → verb ≡ codes "load" → load_of who ws ≡ Some l → Says who (verb ∷ ws) l
program_load who verb ws l v e n is =
    let a = bound (first index_of ws) _ l e in
    let m = made (last_of index_of (later ws)) (λ word. Load who a.0 word) l a.2 in
    subst (λ (k : Line). Written (parts_of k) (n ∷ verb ∷ ws)) m.2
    (is, (v, index_first a.0 (index m.0 ∷ []) ws a.1 (index_only m.0 (later ws) m.1)))

program_store : (who : ℕ) (verb : List ℕ) (ws : Words) (l : Line) → verb ≡ codes "store" → store_of who ws ≡ Some l → Says who (verb ∷ ws) l
program_store who verb ws l v e n is =
    let a = bound (first index_of ws) _ l e in
    let b = bound (first index_of (later ws)) _ l a.2 in
    let m = made (last_of exact_of (later (later ws))) (λ x. Store who a.0 b.0 x) l b.2 in
    subst (λ (k : Line). Written (parts_of k) (n ∷ verb ∷ ws)) m.2
    (is, (v, index_first a.0 (index b.0 ∷ exact m.0 ∷ []) ws a.1 (index_first b.0 (exact m.0 ∷ []) (later ws) b.1 (exact_only m.0 (later (later ws)) m.1))))

program_call : (who : ℕ) (verb : List ℕ) (ws : Words) (l : Line) → option_map (λ r. Call who r) (request_of verb ws) ≡ Some l → Says who (verb ∷ ws) l
program_call who verb ws l e n is =
    let m = made (request_of verb ws) (λ r. Call who r) l e in
    subst (λ (k : Line). Written (parts_of k) (n ∷ verb ∷ ws)) m.2 (is, request_sound verb ws m.0 m.1)

program_sound : (who : ℕ) (ws : Words) (l : Line) → program_of who ws ≡ Some l → Says who ws l
program_sound who [] l e = absurd (none-some l e)
program_sound who (verb ∷ ws) l e =
    ⊎_elim (λ h. program_load who verb ws l h.0 h.1) (λ e1.
    ⊎_elim (λ h. program_store who verb ws l h.0 h.1) (λ e2. program_call who verb ws l e2)
    (by_text verb (codes "store") _ _ l e1))
    (by_text verb (codes "load") _ _ l e)

-- The words of the other lines.
abbrev Tells : Words → Line → Type 0
Tells ws l = Written (parts_of l) ws

way_sound : (dev : List ℕ) (d : ℕ) (ws vs : Words) (l : Line) → dev ≡ codes "dev" → first index_of vs ≡ Some d → ws ≡ later vs → way_of d ws ≡ Some l → Tells (dev ∷ vs) l
way_sound dev d [] vs l h i so e = absurd (none-some l e)
way_sound dev d (way ∷ ws) vs l h i so e =
    ⊎_elim (λ k.
    let a = bound (first index_of ws) _ l k.1 in
    let m = made (last_of index_of (later ws)) (λ word. Read d a.0 word) l a.2 in
    let words : Written (text (codes "read") ∷ index a.0 ∷ index m.0 ∷ []) (way ∷ ws) = (k.0, index_first a.0 (index m.0 ∷ []) ws a.1 (index_only m.0 (later ws) m.1)) in
    subst (Tells (dev ∷ vs)) m.2
    (h, index_first d (text (codes "read") ∷ index a.0 ∷ index m.0 ∷ []) vs i (subst (Written (text (codes "read") ∷ index a.0 ∷ index m.0 ∷ [])) so words)))
    (λ e1. ⊎_elim (λ k.
    let a = bound (first index_of ws) _ l k.1 in
    let b = bound (first index_of (later ws)) _ l a.2 in
    let m = made (last_of exact_of (later (later ws))) (λ x. Write d a.0 b.0 x) l b.2 in
    let words : Written (text (codes "write") ∷ index a.0 ∷ index b.0 ∷ exact m.0 ∷ []) (way ∷ ws) =
    (k.0, index_first a.0 (index b.0 ∷ exact m.0 ∷ []) ws a.1 (index_first b.0 (exact m.0 ∷ []) (later ws) b.1 (exact_only m.0 (later (later ws)) m.1))) in
    subst (Tells (dev ∷ vs)) m.2
    (h, index_first d (text (codes "write") ∷ index a.0 ∷ index b.0 ∷ exact m.0 ∷ []) vs i (subst (Written (text (codes "write") ∷ index a.0 ∷ index b.0 ∷ exact m.0 ∷ [])) so words)))
    (λ e2. absurd (none-some l e2))
    (by_text way (codes "write") _ _ l e1))
    (by_text way (codes "read") _ _ l e)

dev_sound : (dev : List ℕ) (ws : Words) (l : Line) → dev ≡ codes "dev" → access_of ws ≡ Some l → Tells (dev ∷ ws) l
dev_sound dev ws l h e =
    let a = bound (first index_of ws) _ l e in
    way_sound dev a.0 (later ws) ws l h a.1 refl a.2

keep_sound : (keep : List ℕ) (ws : Words) (l : Line) → keep ≡ codes "keep" → keep_of ws ≡ Some l → Tells (keep ∷ ws) l
keep_sound keep ws l h e =
    let a = bound (first index_of ws) _ l e in
    let m = made (last_of index_of (later ws)) (λ p. Keep a.0 p) l a.2 in
    subst (Tells (keep ∷ ws)) m.2 (h, index_first a.0 (index m.0 ∷ []) ws a.1 (index_only m.0 (later ws) m.1))

-- After `kept`, a device and a page.
record Rest (d p : ℕ) (ws : Words) (l : Line) : Type 0 where
  word : ℕ
  x : ℕ
  same : Kept d p word x ≡ l
  words : Written (text (codes "write") ∷ index word ∷ exact x ∷ []) ws

rest_sound : (d p : ℕ) (ws : Words) (l : Line) → kept_way d p ws ≡ Some l → Rest d p ws l
rest_sound d p [] l e = absurd (none-some l e)
rest_sound d p (way ∷ ws) l e =
    ⊎_elim (λ k.
    let a = bound (first index_of ws) _ l k.1 in
    let m = made (last_of exact_of (later ws)) (λ x. Kept d p a.0 x) l a.2 in
    record { word = a.0; x = m.0; same = m.2; words = (k.0, index_first a.0 (exact m.0 ∷ []) ws a.1 (exact_only m.0 (later ws) m.1)) })
    (λ e1. absurd (none-some l e1))
    (by_text way (codes "write") _ _ l e)

kept_sound : (kept : List ℕ) (ws : Words) (l : Line) → kept ≡ codes "kept" → kept_of ws ≡ Some l → Tells (kept ∷ ws) l
kept_sound kept ws l h e =
    let a = bound (first index_of ws) _ l e in
    let b = bound (first index_of (later ws)) _ l a.2 in
    let r = rest_sound a.0 b.0 (later (later ws)) l b.2 in
    subst (Tells (kept ∷ ws)) r.same (
      h,
      index_first a.0 (index b.0 ∷ text (codes "write") ∷ index r.word ∷ exact r.x ∷ []) ws a.1
          (index_first b.0 (text (codes "write") ∷ index r.word ∷ exact r.x ∷ []) (later ws) b.1 r.words),
    )

tells_one : (f : ℕ → Line) (t head : List ℕ) (ws : Words) (l : Line) → ((n : ℕ) → parts_of (f n) ≡ text t ∷ exact n ∷ []) → head ≡ t → option_map f (last_of exact_of ws) ≡ Some l → Tells (head ∷ ws) l
tells_one f t head ws l parts h e =
    let m = made (last_of exact_of ws) f l e in
    let words : Written (text t ∷ exact m.0 ∷ []) (head ∷ ws) = (h, exact_only m.0 ws m.1) in
    subst (Tells (head ∷ ws)) m.2 (subst (λ (ps : List Part). Written ps (head ∷ ws)) (sym (parts m.0)) words)

new_sound : (head : List ℕ) (ws : Words) (l : Line) → head ≡ codes "new" → alone New ws ≡ Some l → Tells (head ∷ ws) l
new_sound head [] l h e =
    let same : New ≡ l = cc in
    subst (Tells (head ∷ [])) same (h, tt)
new_sound head (w ∷ ws) l h e = absurd (none-some l e)

machine_sound : (head : List ℕ) (ws : Words) (l : Line) → machine_of head ws ≡ Some l → Tells (head ∷ ws) l
machine_sound head ws l e =
    ⊎_elim (λ h. dev_sound head ws l h.0 h.1) (λ e1.
    ⊎_elim (λ h. keep_sound head ws l h.0 h.1) (λ e2.
    ⊎_elim (λ h. kept_sound head ws l h.0 h.1) (λ e3.
    ⊎_elim (λ h. tells_one (λ n. Refuse n) (codes "no") head ws l (λ n. refl) h.0 h.1) (λ e4.
    ⊎_elim (λ h. tells_one (λ s. Seed s) (codes "seed") head ws l (λ n. refl) h.0 h.1) (λ e5.
    ⊎_elim (λ h. new_sound head ws l h.0 h.1) (λ e6. absurd (none-some l e6))
    (by_text head (codes "new") _ _ l e5))
    (by_text head (codes "seed") _ _ l e4))
    (by_text head (codes "no") _ _ l e3))
    (by_text head (codes "kept") _ _ l e2))
    (by_text head (codes "keep") _ _ l e1))
    (by_text head (codes "dev") _ _ l e)

head_sound : (o : Option ℕ) (ws : Words) (l : Line) → first index_of ws ≡ o → head_of o ws ≡ Some l → Written (parts_of l) ws
head_sound None [] l i e = absurd (none-some l e)
head_sound None (w ∷ ws) l i e = machine_sound w ws l e
head_sound (Some who) [] l i e = absurd (none-some who i)
head_sound (Some who) (w ∷ ws) l i e = program_sound who ws l e w i

pub sound : (ws : Words) (l : Line) → sentence_of ws ≡ Some l → Written (parts_of l) ws
sound ws l e = head_sound (first index_of ws) ws l refl e
