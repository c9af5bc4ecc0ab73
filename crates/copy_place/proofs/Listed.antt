-- The memrefs of all blocks, in their order.
use Rattle.std.proofs.Common.{◌≡◌, ℕ, zero, suc, ◌+◌, ◌<◌, ◌≤◌, List, [], ◌∷◌, ◌++◌, length, map, take, drop, get_or, refl, sym, ap, ◌∙◌, arith, append_assoc, append-nil}
use Rattle.std.specs.Prelude.{fold}
use Rattle.std.proofs.lemmas.List.{length-map, take_more}
use Rattle.affine_ast.specs.declared.module.Arg.{Arg}
use Rattle.affine_ast.specs.declared.module.Module.{Module}
use Rattle.affine_ast.specs.declared.name.Name.{Name}
use Rattle.affine_ast.specs.Nest.{Nest, nest}
use Rattle.boxes.specs.Every.{Every}
use Rattle.nest_domain.specs.declared.plan.Options.{Options}
use Rattle.placement_texts.specs.Spots.{Spot, Here}
use Rattle.plan_laws.specs.Plan.{Asked, firsts, accesses_in, asked_in, asked_from}
use Rattle.placed_intervals.specs.Untested.{decided_so}
use Rattle.untested_plans.specs.Law.{decided_of}

-- ---- lists by their places
pub at_both : {A B C : Type 0} (f : A → C) (g : B → C) (xs : List A) (ys : List B) (i : ℕ) (d : A) (e : B) → map f xs ≡ map g ys → i < length ys → f (get_or xs i d) ≡ g (get_or ys i e)
at_both f g [] [] i d e h k = absurd (omega (arith, k))
at_both f g [] (y ∷ ys) i d e h k = absurd (let z : ⊥ = cc in z)
at_both f g (x ∷ xs) [] i d e h k = absurd (omega (arith, k))
at_both f g (x ∷ xs) (y ∷ ys) zero d e h k = let same : f x ≡ g y = cc in same
at_both f g (x ∷ xs) (y ∷ ys) (suc i) d e h k = let same : map f xs ≡ map g ys = cc in at_both f g xs ys i d e same (omega (arith, k))

pub same_length : {A B C : Type 0} (f : A → C) (g : B → C) (xs : List A) (ys : List B) → map f xs ≡ map g ys → length xs ≡ length ys
same_length f g xs ys h = sym (length-map xs f) ∙ ap length h ∙ length-map ys g

pub every_at : {A : Type 0} (P : A → Type 0) (xs : List A) (i : ℕ) (d : A) → i < length xs → Every P xs → P (get_or xs i d)
every_at P [] i d h k = absurd (omega (arith, h))
every_at P (x ∷ xs) zero d h k = k.0
every_at P (x ∷ xs) (suc i) d h k = every_at P xs i d (omega (arith, h)) k.1

pub split_at : {A : Type 0} (xs : List A) (i : ℕ) (d : A) → i < length xs → xs ≡ take i xs ++ get_or xs i d ∷ drop (suc i) xs
split_at [] i d h = absurd (omega (arith, h))
split_at (x ∷ xs) zero d h = refl
split_at (x ∷ xs) (suc i) d h = ap (λ l. x ∷ l) (split_at xs i d (omega (arith, h)))

pub taken_length : {A : Type 0} (xs : List A) (i : ℕ) → i ≤ length xs → length (take i xs) ≡ i
taken_length [] zero h = refl
taken_length [] (suc i) h = absurd (omega (arith, h))
taken_length (x ∷ xs) zero h = refl
taken_length (x ∷ xs) (suc i) h = ap suc (taken_length xs i (omega (arith, h)))

pub take_whole : {A : Type 0} (xs : List A) (i : ℕ) → length xs ≤ i → take i xs ≡ xs
take_whole [] zero h = refl
take_whole [] (suc i) h = refl
take_whole (x ∷ xs) zero h = absurd (omega (arith, h))
take_whole (x ∷ xs) (suc i) h = ap (λ l. x ∷ l) (take_whole xs i (omega (arith, h)))

-- ---- memrefs of blocks
module _ (o : Options) (args : List Arg) (n : Nest) where
  asked_append : (block : ℕ) (ss ts : List Spot) → asked_from o args n block (ss ++ ts) ≡ asked_from o args n block ss ++ asked_from o args n (block + length ss) ts
  asked_append block [] ts = ap (λ k. asked_from o args n k ts) (omega arith)
  asked_append block (s ∷ ss) ts =
      let here = asked_in o args n block s (firsts [] (accesses_in o args n s)) in
      let more = asked_append (suc block) ss ts in
      let e : suc block + length ss ≡ block + length (s ∷ ss) = omega arith in
      ap (λ l. here ++ l) (more ∙ ap (λ k. asked_from o args n (suc block) ss ++ asked_from o args n k ts) e) ∙ sym (append_assoc here (asked_from o args n (suc block) ss) (asked_from o args n (block + length (s ∷ ss)) ts))

  pub in_append : (block : ℕ) (s : Spot) (xs ys : List Name) → asked_in o args n block s (xs ++ ys) ≡ asked_in o args n block s xs ++ asked_in o args n block s ys
  in_append block s [] ys = refl
  in_append block s (x ∷ xs) ys = ap (λ l. (record { block = block; at = s; memref = x }) ∷ l) (in_append block s xs ys)

  -- those of one block more
  pub one_block_more : (ss : List Spot) (i : ℕ) → i < length ss
      → asked_from o args n 0 (take (i + 1) ss) ≡ asked_from o args n 0 (take i ss) ++ asked_in o args n i (get_or ss i Here) (firsts [] (accesses_in o args n (get_or ss i Here)))
  one_block_more ss i h =
      let s = get_or ss i Here in
      let here = asked_in o args n i s (firsts [] (accesses_in o args n s)) in
      let count : 0 + length (take i ss) ≡ i = omega (arith, taken_length ss i (omega (arith, h))) in
      ap (asked_from o args n 0) (take_more ss i Here h) ∙ asked_append 0 (take i ss) (s ∷ [])
      ∙ ap (λ k. asked_from o args n 0 (take i ss) ++ asked_from o args n k (s ∷ [])) count
      ∙ ap (λ l. asked_from o args n 0 (take i ss) ++ l) (append-nil here)

  -- the memrefs before one of a block, and those behind it
  pub around_one : (ss : List Spot) (i : ℕ) (ms : List Name) (k : ℕ) (d : Name) → i < length ss → ms ≡ firsts [] (accesses_in o args n (get_or ss i Here)) → k < length ms
      → (after : List Asked) × (asked_from o args n 0 ss ≡ (asked_from o args n 0 (take i ss) ++ asked_in o args n i (get_or ss i Here) (take k ms)) ++ (record { block = i; at = get_or ss i Here; memref = get_or ms k d }) ∷ after)
  around_one ss i ms k d h e j =
      let s = get_or ss i Here in
      let a : Asked = record { block = i; at = s; memref = get_or ms k d } in
      let before = asked_from o args n 0 (take i ss) in
      let front = asked_in o args n i s (take k ms) in
      let back = asked_in o args n i s (drop (suc k) ms) in
      let later = asked_from o args n (suc i) (drop (suc i) ss) in
      let count : 0 + length (take i ss) ≡ i = omega (arith, taken_length ss i (omega (arith, h))) in
      let memrefs : asked_in o args n i s (firsts [] (accesses_in o args n s)) ≡ front ++ a ∷ back = ap (asked_in o args n i s) (sym e ∙ split_at ms k d j) ∙ in_append i s (take k ms) (get_or ms k d ∷ drop (suc k) ms) in (
        back ++ later,
        ap (asked_from o args n 0) (split_at ss i Here h) ∙ asked_append 0 (take i ss) (s ∷ drop (suc i) ss)
            ∙ ap (λ c. before ++ asked_from o args n c (s ∷ drop (suc i) ss)) count
            ∙ ap (λ l. before ++ (l ++ later)) memrefs
            ∙ ap (λ l. before ++ l) (append_assoc front (a ∷ back) later)
            ∙ sym (append_assoc before front (a ∷ (back ++ later))),
      )

-- ---- decisions, one memref more
folded_more : {A B : Type 0} (f : B → A → B) (z : B) (xs : List A) (x : A) → fold f z (xs ++ x ∷ []) ≡ f (fold f z xs) x
folded_more f z [] x = refl
folded_more f z (y ∷ ys) x = folded_more f (f z y) ys x

pub decided_more : (o : Options) (m : Module) (as_ : List Asked) (a : Asked) → decided_of o m (as_ ++ a ∷ []) ≡ decided_so o m.args (nest m.body) (decided_of o m as_) a
decided_more o m as_ a = folded_more (decided_so o m.args (nest m.body)) (record { steps = []; decisions = [] }) as_ a
