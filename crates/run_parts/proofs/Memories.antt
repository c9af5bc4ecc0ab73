-- Slow lists and memories.
use Rattle.std.proofs.Common.{◌≡◌, ℕ, zero, suc, ◌+◌, ◌<◌, ◌≤◌, ℤ, pos, List, [], ◌∷◌, ◌++◌, length, take, drop, get_or, set, refl, sym, ap, ◌∙◌, arith}
use Rattle.std.proofs.lemmas.List.{take_more, drop_more, length-append, length-drop}
use Rattle.affine_ast.specs.declared.image.Cells.{Cells}
use Rattle.direct_meaning.specs.Memory.{slow_list}
use Rattle.run_laws.specs.StaysFitting.{refilled}

filled_next : (values old : List ℤ) (i : ℕ) (z : ℤ) → length old ≡ length values → i < length values → z ≡ get_or values i (pos 0) → set (take i values ++ drop i old) i z ≡ take (suc i) values ++ drop (suc i) old
filled_next [] old i z l h e = absurd (omega (arith, h))
filled_next (v ∷ values) [] i z l h e = absurd (omega (arith, l))
filled_next (v ∷ values) (o ∷ old) zero z l h e = ap (λ x. x ∷ old) e
filled_next (v ∷ values) (o ∷ old) (suc i) z l h e = ap (λ xs. v ∷ xs) (filled_next values old i z (omega (arith, l)) (omega (arith, h)) e)

append-nil : (xs : List ℤ) → xs ++ [] ≡ xs
append-nil [] = refl
append-nil (x ∷ xs) = ap (λ l. x ∷ l) (append-nil xs)

append_assoc' : (xs ys zs : List ℤ) → (xs ++ ys) ++ zs ≡ xs ++ (ys ++ zs)
append_assoc' [] ys zs = refl
append_assoc' (x ∷ xs) ys zs = ap (λ l. x ∷ l) (append_assoc' xs ys zs)

slow_append : (xs bs : List Cells) → slow_list (xs ++ bs) ≡ slow_list xs ++ slow_list bs
slow_append [] bs = refl
slow_append (c ∷ cs) bs = ap (λ l. c.values ++ l) (slow_append cs bs) ∙ sym (append_assoc' c.values (slow_list cs) (slow_list bs))

-- a cell more is filled
pub filled_more : (values old : List ℤ) (i : ℕ) (z : ℤ) → length old ≡ length values → i < length values → z ≡ get_or values i (pos 0) → set (take i values ++ drop i old) i z ≡ take (i + 1) values ++ drop (i + 1) old
filled_more values old i z l h e = let next : suc i ≡ i + 1 = omega arith in filled_next values old i z l h e ∙ ap (λ j. take j values ++ drop j old) next

filled_long : (values old : List ℤ) (i : ℕ) → length old ≡ length values → length (take i values ++ drop i old) ≡ length values
filled_long values old zero l = l
filled_long [] [] (suc i) l = refl
filled_long [] (o ∷ old) (suc i) l = absurd (omega (arith, l))
filled_long (v ∷ values) [] (suc i) l = absurd (omega (arith, l))
filled_long (v ∷ values) (o ∷ old) (suc i) l = ap suc (filled_long values old i (omega (arith, l)))

-- a cell that is still to be filled is there
pub filled_at : (values old new : List ℤ) (i : ℕ) → new ≡ take i values ++ drop i old → length old ≡ length values → i < length values → i < length new
filled_at values old new i is l h = let k = ap length is ∙ filled_long values old i l in omega (arith, h, k)

filled_end : (values old : List ℤ) (i : ℕ) → length old ≡ length values → length values ≤ i → take i values ++ drop i old ≡ values
filled_end [] [] zero l h = refl
filled_end [] [] (suc i) l h = refl
filled_end [] (o ∷ old) i l h = absurd (omega (arith, l))
filled_end (v ∷ values) [] i l h = absurd (omega (arith, l))
filled_end (v ∷ values) (o ∷ old) zero l h = absurd (omega (arith, h))
filled_end (v ∷ values) (o ∷ old) (suc i) l h = ap (λ xs. v ∷ xs) (filled_end values old i (omega (arith, l)) (omega (arith, h)))

-- all cells are filled
pub filled_all : (values old new : List ℤ) (i : ℕ) → new ≡ take i values ++ drop i old → length old ≡ length values → length values ≤ i → new ≡ values
filled_all values old new i is l h = is ∙ filled_end values old i l h

-- the slow list of one memref more
pub slow_more : (ms : List Cells) (i : ℕ) (c : Cells) (old new : List ℤ) → i < length ms → c ≡ get_or ms i c → old ≡ slow_list (take i ms) → new ≡ old ++ c.values → new ≡ slow_list (take (i + 1) ms)
slow_more ms i c old new h at so push =
    push ∙ (λ k. so k ++ c.values) ∙ (λ k. slow_list (take i ms) ++ sym (append-nil c.values) k) ∙ sym (slow_append (take i ms) (c ∷ []))
    ∙ ap (λ x. slow_list (take i ms ++ x ∷ [])) at ∙ ap slow_list (sym (take_more ms i c h))

-- a memref more is filled
refilled_next : (ms : List Cells) (i : ℕ) (c new : Cells) (rest : List ℤ) → i < length ms → c ≡ get_or ms i c → new.values ≡ take (length c.values) rest
    → take i ms ++ refilled (drop i ms) rest ≡ take (suc i) (set ms i new) ++ refilled (drop (suc i) (set ms i new)) (drop (length c.values) rest)
refilled_next [] i c new rest h at e = absurd (omega (arith, h))
refilled_next (m ∷ ms) zero c new rest h at e =
    ap (λ (x : Cells). record { values = take (length x.values) rest } ∷ refilled ms (drop (length x.values) rest)) (sym at)
    ∙ ap (λ vs. record { values = vs } ∷ refilled ms (drop (length c.values) rest)) (sym e)
refilled_next (m ∷ ms) (suc i) c new rest h at e = ap (λ l. m ∷ l) (refilled_next ms i c new rest (omega (arith, h)) at e)

module _ (ms after : List Cells) (i : ℕ) (c new : Cells) (rest more : List ℤ) (h : i < length ms) (at : c ≡ get_or ms i c) (is : after ≡ set ms i new) where
  pub refilled_more : (whole : List Cells) → new.values ≡ take (length c.values) rest → more ≡ drop (length c.values) rest → whole ≡ take i ms ++ refilled (drop i ms) rest → whole ≡ take (i + 1) after ++ refilled (drop (i + 1) after) more
  refilled_more whole e f so =
      let next : suc i ≡ i + 1 = omega arith in
      so ∙ refilled_next ms i c new rest h at e ∙ (λ k. take (next k) (sym is k) ++ refilled (drop (next k) (sym is k)) (sym f k))

  next_dropped : drop i ms ≡ c ∷ drop (i + 1) ms
  next_dropped = drop_more ms i c h ∙ ap (λ x. x ∷ drop (i + 1) ms) (sym at)

  drop_after : (ms : List Cells) (i : ℕ) → drop (suc i) (set ms i new) ≡ drop (suc i) ms
  drop_after [] zero = refl
  drop_after [] (suc i) = refl
  drop_after (m ∷ ms) zero = refl
  drop_after (m ∷ ms) (suc i) = drop_after ms i

  pub room_here : length (slow_list (drop i ms)) ≤ length rest → length c.values ≤ length rest
  room_here k =
      let a = ap (λ xs. length (slow_list xs)) next_dropped in
      omega (arith, k, a, length-append c.values (slow_list (drop (i + 1) ms)))

  pub room_behind : more ≡ drop (length c.values) rest → length (slow_list (drop i ms)) ≤ length rest → length (slow_list (drop (i + 1) after)) ≤ length more
  room_behind f k =
      let a = ap (λ xs. length (slow_list xs)) next_dropped in
      let next : suc i ≡ i + 1 = omega arith in
      let b = ap (λ xs. length (slow_list xs)) ((λ j. drop (sym next j) (is j)) ∙ drop_after ms i ∙ ap (λ j. drop j ms) next) in
      let d = ap length f ∙ length-drop (length c.values) rest in
      omega (arith, k, a, b, d, length-append c.values (slow_list (drop (i + 1) ms)))

pub refilled_end : (whole ms : List Cells) (i : ℕ) (rest : List ℤ) → length ms ≤ i → whole ≡ take i ms ++ refilled (drop i ms) rest → ms ≡ whole
refilled_end whole ms i rest h so = sym (so ∙ all ms i h)
  where
    all : (ms : List Cells) (i : ℕ) → length ms ≤ i → take i ms ++ refilled (drop i ms) rest ≡ ms
    all [] zero h = refl
    all [] (suc i) h = refl
    all (m ∷ ms) zero h = absurd (omega (arith, h))
    all (m ∷ ms) (suc i) h = ap (λ l. m ∷ l) (all ms i (omega (arith, h)))
