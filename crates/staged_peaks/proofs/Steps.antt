-- Steps of the walks along a way.
use Rattle.std.proofs.Common.{◌≡◌, ℕ, zero, suc, ◌+◌, ◌-◌, ◌≤◌, ◌<◌, Bool, true, false, List, [], ◌∷◌, ◌++◌, refl, sym, ap, ◌∙◌, arith}
use Rattle.std.specs.Prelude.{max, length, take, drop, get_or, nat_le, if◌then◌else◌, slice_set}
use Rattle.std.proofs.lemmas.List.{drop_more, drop_all, take-append-drop, take_more, get_or-take, get_or_append_left, length-take-le, set_at, append_assoc}
use Rattle.staged_peaks.specs.declared.live.LiveLoop.{LiveLoop}
use Rattle.staged_peaks.specs.Living.{shared, kept_of, reach, raised}

-- ---- steps that two paths share, loops that are kept
shared_none : (xs : List (ℕ × Bool)) → shared xs [] ≡ 0
shared_none [] = refl
shared_none (x ∷ xs) = refl

pub shared_ends : (xs ys : List (ℕ × Bool)) (i : ℕ) → length ys ≤ i → shared (drop i xs) (drop i ys) ≡ 0
shared_ends xs ys i h = ap (shared (drop i xs)) (drop_all i ys h) ∙ shared_none (drop i xs)

kept_none : (common : ℕ) (xs : List LiveLoop) → kept_of common xs [] ≡ 0
kept_none common [] = refl
kept_none common (x ∷ xs) = refl

pub kept_ends : (common : ℕ) (xs : List LiveLoop) (ks : List ℕ) (i : ℕ) → length ks ≤ i → kept_of common (drop i xs) (drop i ks) ≡ 0
kept_ends common xs ks i h = ap (kept_of common (drop i xs)) (drop_all i ks h) ∙ kept_none common (drop i xs)

pub kept_more : (common : ℕ) (xs : List LiveLoop) (ks : List ℕ) (i : ℕ) (d : LiveLoop) → i < length xs → i < length ks → (get_or xs i d).steps ≤ common
    → kept_of common (drop i xs) (drop i ks) ≡ suc (kept_of common (drop (i + 1) xs) (drop (i + 1) ks))
kept_more common xs ks i d h k le =
    (λ j. kept_of common (drop_more xs i d h j) (drop_more ks i 0 k j)) ∙ by (nat_le (get_or xs i d).steps common) (grind (arith, le))
  where
    by : (t : Bool) → t ≡ true → (if t then suc (kept_of common (drop (i + 1) xs) (drop (i + 1) ks)) else 0) ≡ suc (kept_of common (drop (i + 1) xs) (drop (i + 1) ks))
    by true e = refl
    by false e = absurd (let z : ⊥ = cc in z)

-- ---- loops that hold more
raised_none : (xs : List LiveLoop) → raised 0 0 xs ≡ xs
raised_none [] = refl
raised_none (x ∷ xs) = let e : x.own + 0 ≡ x.own = omega arith in λ i. (record { steps = x.steps; own = e i; below = x.below }) ∷ xs

pub first_way : (xs : List LiveLoop) (p : ℕ) → xs ≡ take p xs ++ raised (p - p) 0 (drop p xs)
first_way xs p =
    let e : p - p ≡ 0 = omega arith in
    sym (take-append-drop p xs) ∙ ap (λ ys. take p xs ++ ys) (sym (raised_none (drop p xs)) ∙ ap (λ k. raised k 0 (drop p xs)) (sym e))

pub first_reach : (xs : List LiveLoop) (p : ℕ) (d : LiveLoop) → p < length xs → (get_or xs p d).own + (get_or xs p d).below ≡ reach (p - p) 0 (drop p xs)
first_reach xs p d h =
    let e : reach (p - p) 0 (drop p xs) ≡ reach 0 0 (drop p xs) = ap (λ k. reach k 0 (drop p xs)) (omega arith) in
    let f : reach 0 0 (drop p xs) ≡ reach 0 0 (get_or xs p d ∷ drop (p + 1) xs) = ap (reach 0 0) (drop_more xs p d h) in
    omega (arith, e, f)

-- one loop further out
module _ (xs : List LiveLoop) (p i : ℕ) (d : LiveLoop) (some : 0 < i) (le : i ≤ p) (lt : p < length xs) where
  abbrev inner : ℕ
  inner = reach (p - i) 0 (drop i xs)

  abbrev outer : LiveLoop
  outer = get_or xs (i - 1) d

  abbrev pub higher : LiveLoop
  higher = record { steps = outer.steps; own = outer.own; below = max outer.below inner }

  behind_outer : drop (i - 1) xs ≡ outer ∷ drop i xs
  behind_outer = let h : i - 1 < length xs = omega (arith, some, le, lt) in drop_more xs (i - 1) d h ∙ ap (λ k. outer ∷ drop k xs) (omega (arith, some))

  pub next_reach : reach (p - (i - 1)) 0 (drop (i - 1) xs) ≡ outer.own + inner
  next_reach = (λ j. reach (one_more j) 0 (behind_outer j))
    where
      one_more : p - (i - 1) ≡ suc (p - i)
      one_more = omega (arith, some, le)

  next_raised : raised (p - (i - 1)) 0 (drop (i - 1) xs) ≡ higher ∷ raised (p - i) 0 (drop i xs)
  next_raised = (λ j. raised (one_more j) 0 (behind_outer j))
    where
      one_more : p - (i - 1) ≡ suc (p - i)
      one_more = omega (arith, some, le)

  take_outer : take i xs ≡ take (i - 1) xs ++ outer ∷ []
  take_outer = let h : i - 1 < length xs = omega (arith, some, le, lt) in ap (λ k. take k xs) (omega (arith, some)) ∙ take_more xs (i - 1) d h

  read_outer : (ys : List LiveLoop) → get_or (take i xs ++ ys) (i - 1) d ≡ outer
  read_outer ys =
      let e = length-take-le i xs (omega (arith, le, lt)) in
      get_or_append_left (take i xs) ys d (i - 1) (omega (arith, e, some)) ∙ get_or-take i xs (i - 1) d (omega (arith, some))

  set_outer : (y : LiveLoop) (ys : List LiveLoop) → slice_set (take i xs ++ ys) (i - 1) y ≡ take (i - 1) xs ++ y ∷ ys
  set_outer y ys =
      ap (λ zs. slice_set (zs ++ ys) (i - 1) y) take_outer
      ∙ (ap (λ zs. slice_set zs (i - 1) y) (append_assoc (take (i - 1) xs) (outer ∷ []) ys) ∙ set_at (take (i - 1) xs) outer ys y (i - 1) (length-take-le (i - 1) xs (omega (arith, le, lt))))

  -- the way as the walk has it, with this loop read and put back
  module _ (way : List LiveLoop) (so : way ≡ take i xs ++ raised (p - i) 0 (drop i xs)) where
    pub read : get_or way (i - 1) d ≡ outer
    read = ap (λ zs. get_or zs (i - 1) d) so ∙ read_outer (raised (p - i) 0 (drop i xs))

    pub next_way : slice_set way (i - 1) higher ≡ take (i - 1) xs ++ raised (p - (i - 1)) 0 (drop (i - 1) xs)
    next_way = ap (λ zs. slice_set zs (i - 1) higher) so ∙ (set_outer higher (raised (p - i) 0 (drop i xs)) ∙ ap (λ zs. take (i - 1) xs ++ zs) (sym next_raised))

-- what is reached from further in is no more
pub reach_inner : (b : ℕ) (xs : List LiveLoop) (p i : ℕ) → i ≤ p → reach (p - i) b (drop i xs) ≤ reach p b xs
reach_inner b [] p zero le = omega arith
reach_inner b [] p (suc i) le = omega arith
reach_inner b (x ∷ xs) p zero le = let e : reach (p - 0) b (x ∷ xs) ≡ reach p b (x ∷ xs) = ap (λ k. reach k b (x ∷ xs)) (omega arith) in omega (arith, e)
reach_inner b (x ∷ xs) zero (suc i) le = absurd (omega (arith, le))
reach_inner b (x ∷ xs) (suc p) (suc i) le =
    let e : reach (suc p - suc i) b (drop i xs) ≡ reach (p - i) b (drop i xs) = ap (λ k. reach k b (drop i xs)) (omega arith) in
    let f = reach_inner b xs p i (omega (arith, le)) in omega (arith, e, f)

-- ---- bytes at a loop, and then for those round it
module _ (b : ℕ) (d : LiveLoop) where
  abbrev pub more : LiveLoop → LiveLoop
  more x = record { steps = x.steps; own = x.own + b; below = x.below }

  pub reach_set : (xs : List LiveLoop) (p : ℕ) → p < length xs → reach p 0 (slice_set xs p (more (get_or xs p d))) ≡ reach p b xs
  reach_set [] p h = absurd (omega (arith, h))
  reach_set (x ∷ xs) zero h = omega arith
  reach_set (x ∷ xs) (suc p) h = let e = reach_set xs p (omega (arith, h)) in omega (arith, e)

  pub raised_set : (xs : List LiveLoop) (p : ℕ) → p < length xs → raised p 0 (slice_set xs p (more (get_or xs p d))) ≡ raised p b xs
  raised_set [] p h = refl
  raised_set (x ∷ xs) zero h = let e : x.own + b + 0 ≡ x.own + b = omega arith in λ i. (record { steps = x.steps; own = e i; below = x.below }) ∷ xs
  raised_set (x ∷ xs) (suc p) h =
      let e = reach_set xs p (omega (arith, h)) in let f = raised_set xs p (omega (arith, h)) in
      λ i. (record { steps = x.steps; own = x.own; below = max x.below (e i) }) ∷ f i

  -- at the loop itself
  pub own_fits : (xs : List LiveLoop) (p : ℕ) → p < length xs → (get_or xs p d).own + b ≤ reach p b xs
  own_fits [] p h = absurd (omega (arith, h))
  own_fits (x ∷ xs) zero h = omega arith
  own_fits (x ∷ xs) (suc p) h = let e = own_fits xs p (omega (arith, h)) in omega (arith, e)
