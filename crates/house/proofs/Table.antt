-- The table, with the first idle frame: by computation. Assumes nothing.
use Rattle.std.proofs.Common.{◌≡◌, ℕ, zero, suc, ◌<◌, Bool, true, not, ◌&&◌, T, eqb, List, [], ◌∷◌, ◌++◌, refl, ap, ◌∙◌, ⊎_elim, arith, T_not}
use Rattle.std.proofs.lemmas.Bool.{cases_eq}
use Rattle.house.specs.Meaning.{State, has, any, first, is_in, every, is_of, is_idle, loan_of, is_home, is_at, is_lent, reaches, owner_is, open_by, is_shut, why, leaving, home_from, leaving_from, map_loan, no_table, closing, shut_all, all_drained, not_of, device_of, acts, takes_frame, excused, is_later}
use Rattle.house.specs.Rows.{Step, Blank, drained_by, taken, asked, is_whose, blank, played, plays, all_play, dome, gets_all, filled, row_a, row_b, row_c, row_d, row_e, row_f, row_g, row_h, table}
use Rattle.house.proofs.Shelf.{both, pair, none_any, same_number}

abbrev pub first_idle : State → ℕ
first_idle s = first s.frames (λ (f : ℕ). is_idle (s.what f))

-- the state after a row, and a row that goes on
after : (State → ℕ) → State → List Step → State
after pick s [] = s
after pick s (x ∷ xs) = after pick (played pick s x).state xs

plays_on : (pick : State → ℕ) (s : State) (xs ys : List Step) → T (plays pick s xs) → T (plays pick (after pick s xs) ys) → T (plays pick s (xs ++ ys))
unfolding plays after
plays_on pick s [] ys p q = q
plays_on pick s (x ∷ xs) ys p q =
    let b = both (played pick s x).fits (plays pick (played pick s x).state xs) p in
    pair (played pick s x).fits (plays pick (played pick s x).state (xs ++ ys)) b.0 (plays_on pick (played pick s x).state xs ys b.1 q)

-- noughts in every word of the frames below n
Zeros : ℕ → (ℕ → ℕ → ℕ) → Type 0
Zeros zero m = Unit {0}
Zeros (suc n) m = Zeros n m × ((k : ℕ) → m n k ≡ 0)

no_words : (n : ℕ) → Zeros n (λ f k. 0)
unfolding Zeros
no_words zero = tt
no_words (suc n) = (no_words n, λ k. refl)

zero_at : (n : ℕ) (m : ℕ → ℕ → ℕ) → Zeros n m → (f : ℕ) → f < n → (k : ℕ) → m f k ≡ 0
unfolding Zeros
zero_at zero m z f l k = absurd (omega arith)
zero_at (suc n) m z f l k = ⊎_elim (λ (e : f ≡ n). ap (λ (y : ℕ). m y k) e ∙ z.1 k) (λ (d : f ≡ n → ⊥). zero_at n m z.0 f (omega arith) k) (cases_eq f n)

every_from : (n : ℕ) (p : ℕ → Bool) → ((k : ℕ) → T (p k)) → T (every n p)
unfolding every
every_from zero p h = tt
every_from (suc n) p h = pair (every n p) (p n) (every_from n p h) (h n)

-- every page of a memory of noughts is noughts
all_blank : (s : State) (c : ℕ) → Zeros s.frames s.word → T (not (any s.frames (λ (f : ℕ). is_whose c (s.what f) && not (blank (s.word f)))))
unfolding blank
all_blank s c z =
    none_any s.frames (λ (f : ℕ). is_whose c (s.what f) && not (blank (s.word f)))
    (λ f l t. T_not (blank (s.word f)) (both (is_whose c (s.what f)) (not (blank (s.word f))) t).1 (every_from 512 (λ (k : ℕ). eqb (s.word f k) 0) (λ k. same_number (s.word f k) 0 (zero_at s.frames s.word z f l k))))

fits_blank : (pick : State → ℕ) (s : State) (c n : ℕ) → T (every n (λ (v : ℕ). has s c v)) → Zeros s.frames s.word → T (plays pick s (Blank c n ∷ []))
unfolding plays played
fits_blank pick s c n h z = pair (every n (λ (v : ℕ). has s c v) && not (any s.frames (λ (f : ℕ). is_whose c (s.what f) && not (blank (s.word f))))) true (pair (every n (λ (v : ℕ). has s c v)) (not (any s.frames (λ (f : ℕ). is_whose c (s.what f) && not (blank (s.word f))))) h (all_blank s c z)) tt

full_house : State
full_house = after first_idle dome filled

-- 2 has them all, and all are noughts
full_zeros : Zeros full_house.frames full_house.word
unfolding full_house Zeros any first is_in every is_of is_idle loan_of is_home why acts takes_frame excused is_later drained_by taken asked played after dome gets_all
full_zeros = no_words 64

full_has : T (every 63 (λ (v : ℕ). has full_house 2 v))
unfolding full_house any first is_in every is_of is_idle loan_of is_home why acts takes_frame excused is_later drained_by taken asked played after dome gets_all
full_has = tt

filled_plays : T (plays first_idle dome filled)
unfolding any first is_in every is_of is_idle loan_of is_home why acts takes_frame excused is_later drained_by taken asked played plays dome gets_all
filled_plays = tt

row_g_plays : T (plays first_idle dome row_g)
unfolding full_house
row_g_plays = plays_on first_idle dome filled (Blank 2 63 ∷ []) filled_plays (fits_blank first_idle full_house 2 63 full_has full_zeros)

-- one more row among others
one_more : (pick : State → ℕ) (s : State) (row : List Step) (xs ys : List (List Step)) → T (plays pick s row) → T (all_play pick s (xs ++ ys)) → T (all_play pick s (xs ++ (row ∷ ys)))
unfolding all_play
one_more pick s row [] ys p q = pair (plays pick s row) (all_play pick s ys) p q
one_more pick s row (x ∷ xs) ys p q =
    let b = both (plays pick s x) (all_play pick s (xs ++ ys)) q in
    pair (plays pick s x) (all_play pick s (xs ++ (row ∷ ys))) b.0 (one_more pick s row xs ys p b.1)

others_play : T (all_play first_idle dome (row_a ∷ row_b ∷ row_c ∷ row_d ∷ row_e ∷ row_f ∷ row_h ∷ []))
unfolding any first is_in every is_of is_idle loan_of is_home is_at is_lent reaches owner_is open_by is_shut why leaving home_from leaving_from map_loan no_table closing shut_all all_drained not_of device_of acts takes_frame excused is_later drained_by taken asked played plays all_play dome
others_play = tt

pub first_plays : T (all_play first_idle dome table)
first_plays = one_more first_idle dome row_g (row_a ∷ row_b ∷ row_c ∷ row_d ∷ row_e ∷ row_f ∷ []) (row_h ∷ []) row_g_plays others_play
