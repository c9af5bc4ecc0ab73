-- A transfer with one stride carries exactly the elements of a box.
use Rattle.std.proofs.Common.{◌≡◌, ℕ, ◌+◌, ◌*◌, ◌/◌, ◌%◌, ◌<◌, ◌≤◌, Bool, true, false, cond, List, [], ◌∷◌, refl, sym, ◌∙◌, ap, arith}
use Rattle.std.specs.Prelude.{nat_eq}
use Rattle.std.proofs.lemmas.Nat.{div-mul-add, mod-mul-add, div-add-mod', mod_below}
use Rattle.std.proofs.lemmas.Bool.{eqb-true}
use Rattle.std.proofs.Math.Nat.{div-eq_of_lt, mod-eq_of_lt}
use Rattle.boxes.specs.Boxes.{Side, volume, count, IsBox, cell, first, far, Shape, Whole, OneRun, Even, Runs, Mixed, is_whole, shape_over, shape, chunk_of, stride_of, slow_at}
use Rattle.boxes.proofs.Places.{count_pos, count_most, cell_is}

-- what a shape says of the box
abbrev pub Straight : List Side → Type 0
Straight ds = (t : ℕ) → t < count ds → far ds t ≡ t

abbrev pub Stepped : List Side → ℕ → ℕ → Type 0
Stepped ds c s = (t : ℕ) → t < count ds → far ds t ≡ (t / c) * s + t % c

abbrev pub Holds : List Side → Shape → Type 0
Holds ds Whole = (count ds ≡ volume ds) × Straight ds
Holds ds OneRun = Straight ds
Holds ds (Even c s) = (0 < c) × ((m : ℕ) × ((count ds ≡ m * c) × (volume ds ≡ m * s))) × Stepped ds c s
Holds ds (Runs c s) = (0 < c) × ((m : ℕ) × (count ds ≡ m * c)) × Stepped ds c s
Holds ds Mixed = Unit {0}

-- ---- one dimension more
over_whole : (d : Side) (ds : List Side) → IsBox ds → (count ds ≡ volume ds) → Straight ds → Straight (d ∷ ds)
over_whole d ds b e f t h =
    let g = f (t % count ds) (mod_below t (count ds) (count_pos ds b)) in
    rw (← e, g) (div-add-mod' t (count ds))

below_one : (d : Side) (ds : List Side) (t : ℕ) → d.extent ≡ 1 → t < count (d ∷ ds) → t < count ds
below_one d ds t e h = let m = ap (λ n. n * count ds) e in omega arith

over_one : (d : Side) (ds : List Side) (t : ℕ) → t < count ds → far (d ∷ ds) t ≡ far ds t
over_one d ds t h = rw (div-eq_of_lt h, mod-eq_of_lt h) (omega arith)

over_run : (d : Side) (ds : List Side) → IsBox ds → Straight ds → Stepped (d ∷ ds) (count ds) (volume ds)
over_run d ds b f t h = ap (λ n. (t / count ds) * volume ds + n) (f (t % count ds) (mod_below t (count ds) (count_pos ds b)))

-- the quotient and the remainder by c, from those by m * c
quotient_of : (t k m c : ℕ) → k ≡ m * c → 0 < c → t / c ≡ (t / k) * m + (t % k) / c
quotient_of t k m c e h =
    let r = mod_below (t % k) c h in
    let whole : t ≡ ((t / k) * m + (t % k) / c) * c + (t % k) % c = split (t / k) m c ((t % k) / c) ((t % k) % c) (t % k) k t e (div-add-mod' t k) (div-add-mod' (t % k) c) in
    ap (λ n. n / c) whole ∙ div-mul-add ((t / k) * m + (t % k) / c) c ((t % k) % c) r
  where
    split : (a m c p r x k t : ℕ) → k ≡ m * c → a * k + x ≡ t → p * c + r ≡ x → t ≡ (a * m + p) * c + r
    split a m c p r x k t e f g = let w = ap (λ n. a * n) e in omega arith

rest_of : (t k m c : ℕ) → k ≡ m * c → 0 < c → t % c ≡ (t % k) % c
rest_of t k m c e h =
    let r = mod_below (t % k) c h in
    let whole : t ≡ ((t / k) * m + (t % k) / c) * c + (t % k) % c = split (t / k) m c ((t % k) / c) ((t % k) % c) (t % k) k t e (div-add-mod' t k) (div-add-mod' (t % k) c) in
    ap (λ n. n % c) whole ∙ mod-mul-add ((t / k) * m + (t % k) / c) c ((t % k) % c) r
  where
    split : (a m c p r x k t : ℕ) → k ≡ m * c → a * k + x ≡ t → p * c + r ≡ x → t ≡ (a * m + p) * c + r
    split a m c p r x k t e f g = let w = ap (λ n. a * n) e in omega arith

over_even : (d : Side) (ds : List Side) (c s m : ℕ) → IsBox ds → 0 < c → count ds ≡ m * c → volume ds ≡ m * s → Stepped ds c s → Stepped (d ∷ ds) c s
over_even d ds c s m b hc ec ev f t h =
    let k = count ds in
    let g = f (t % k) (mod_below t k (count_pos ds b)) in
    let q = quotient_of t k m c ec hc in
    let r = rest_of t k m c ec hc in
    joined (t / k) (volume ds) (far ds (t % k)) ((t % k) / c) s ((t % k) % c) (t / c) (t % c) m g ev q r
  where
    joined : (a v x p s r q w m : ℕ) → x ≡ p * s + r → v ≡ m * s → q ≡ a * m + p → w ≡ r → a * v + x ≡ q * s + w
    joined a v x p s r q w m e f g h = let y = ap (λ n. a * n) f in let z = ap (λ n. n * s) g in omega arith

-- ---- each shape is what it says
over_by_whole : (d : Side) (ds : List Side) → IsBox ds → Holds ds Whole → (b : Bool) → is_whole d ≡ b → Holds (d ∷ ds) (cond b Whole OneRun)
over_by_whole d ds i h true e = let w = eqb-true d.extent d.size e in (ap (λ n. n * count ds) w ∙ ap (λ n. d.size * n) h.0, over_whole d ds i h.0 h.1)
over_by_whole d ds i h false e = over_whole d ds i h.0 h.1

over_by_run : (d : Side) (ds : List Side) → IsBox ds → Holds ds OneRun → (a b : Bool) → nat_eq d.extent 1 ≡ a → is_whole d ≡ b → Holds (d ∷ ds) (cond a OneRun (cond b (Even (count ds) (volume ds)) (Runs (count ds) (volume ds))))
over_by_run d ds i h true b e f = λ t k. let l = below_one d ds t (eqb-true d.extent 1 e) k in over_one d ds t l ∙ h t l
over_by_run d ds i h false true e f = (count_pos ds i, (d.extent, (refl, ap (λ n. n * volume ds) (sym (eqb-true d.extent d.size f)))), over_run d ds i h)
over_by_run d ds i h false false e f = (count_pos ds i, (d.extent, refl), over_run d ds i h)

over_by_even : (d : Side) (ds : List Side) (c s : ℕ) → IsBox ds → Holds ds (Even c s) → (b : Bool) → is_whole d ≡ b → Holds (d ∷ ds) (cond b (Even c s) (Runs c s))
over_by_even d ds c s i h true e =
    let w = eqb-true d.extent d.size e in
    (h.0, (d.extent * h.1.0, (product d.extent (count ds) h.1.0 c h.1.1.0, ap (λ n. n * volume ds) (sym w) ∙ product d.extent (volume ds) h.1.0 s h.1.1.1)), over_even d ds c s h.1.0 i h.0 h.1.1.0 h.1.1.1 h.2)
  where
    product : (e k m c : ℕ) → k ≡ m * c → e * k ≡ (e * m) * c
    product e k m c f = let w = ap (λ n. e * n) f in omega arith
over_by_even d ds c s i h false e = (h.0, (d.extent * h.1.0, product d.extent (count ds) h.1.0 c h.1.1.0), over_even d ds c s h.1.0 i h.0 h.1.1.0 h.1.1.1 h.2)
  where
    product : (e k m c : ℕ) → k ≡ m * c → e * k ≡ (e * m) * c
    product e k m c f = let w = ap (λ n. e * n) f in omega arith

over_by_runs : (d : Side) (ds : List Side) (c s : ℕ) → IsBox ds → Holds ds (Runs c s) → (a : Bool) → nat_eq d.extent 1 ≡ a → Holds (d ∷ ds) (cond a (Runs c s) Mixed)
over_by_runs d ds c s i h true e =
    (h.0, (h.1.0, ap (λ n. n * count ds) (eqb-true d.extent 1 e) ∙ one_times (count ds) ∙ h.1.1), λ t k. let l = below_one d ds t (eqb-true d.extent 1 e) k in over_one d ds t l ∙ h.2 t l)
  where
    one_times : (n : ℕ) → 1 * n ≡ n
    one_times n = omega arith
over_by_runs d ds c s i h false e = tt

over_holds : (d : Side) (ds : List Side) → IsBox ds → (s : Shape) → Holds ds s → Holds (d ∷ ds) (shape_over d ds s)
over_holds d ds i Whole h = over_by_whole d ds i h (is_whole d) refl
over_holds d ds i OneRun h = over_by_run d ds i h (nat_eq d.extent 1) (is_whole d) refl refl
over_holds d ds i (Even c s) h = over_by_even d ds c s i h (is_whole d) refl
over_holds d ds i (Runs c s) h = over_by_runs d ds c s i h (nat_eq d.extent 1) refl
over_holds d ds i Mixed h = tt

pub shape_holds : (ds : List Side) → IsBox ds → Holds ds (shape ds)
shape_holds [] i = (refl, λ t h. omega arith)
shape_holds (d ∷ ds) i = over_holds d ds i.2 (shape ds) (shape_holds ds i.2)

abbrev pub IsMixed : Shape → Type 0
IsMixed Whole = ⊥
IsMixed OneRun = ⊥
IsMixed (Even c s) = ⊥
IsMixed (Runs c s) = ⊥
IsMixed Mixed = Unit {0}

straight_is : (ds : List Side) (t : ℕ) → t < count ds → far ds t ≡ t → cell ds t ≡ slow_at (first ds) (count ds) (count ds) t
straight_is ds t h e = cell_is ds t ∙ rw (e, div-eq_of_lt h, mod-eq_of_lt h) (omega arith)

stepped_is : (ds : List Side) (t c s : ℕ) → far ds t ≡ (t / c) * s + t % c → cell ds t ≡ slow_at (first ds) s c t
stepped_is ds t c s e = cell_is ds t ∙ regroup (first ds) ((t / c) * s) (t % c) (far ds t) e
  where
    regroup : (a b r x : ℕ) → x ≡ b + r → a + x ≡ a + b + r
    regroup a b r x e = omega arith

carried_by : (ds : List Side) (t : ℕ) → t < count ds → (s : Shape) → Holds ds s → ¬ IsMixed s → cell ds t ≡ slow_at (first ds) (stride_of s (count ds)) (chunk_of s (count ds)) t
carried_by ds t h Whole k n = straight_is ds t h (k.1 t h)
carried_by ds t h OneRun k n = straight_is ds t h (k t h)
carried_by ds t h (Even c s) k n = stepped_is ds t c s (k.2 t h)
carried_by ds t h (Runs c s) k n = stepped_is ds t c s (k.2 t h)
carried_by ds t h Mixed k n = absurd (n tt)

-- element t of the transfer is element t of the box
pub transfer_carries : (ds : List Side) → IsBox ds → ¬ IsMixed (shape ds) → (t : ℕ) → t < count ds → slow_at (first ds) (stride_of (shape ds) (count ds)) (chunk_of (shape ds) (count ds)) t ≡ cell ds t
transfer_carries ds i n t h = sym (carried_by ds t h (shape ds) (shape_holds ds i) n)

-- the stride is at least the chunk, and the chunk divides the count
abbrev pub Ordered : Shape → Type 0
Ordered Whole = Unit {0}
Ordered OneRun = Unit {0}
Ordered (Even c s) = c ≤ s
Ordered (Runs c s) = c ≤ s
Ordered Mixed = Unit {0}

over_ordered : (d : Side) (ds : List Side) → IsBox ds → (s : Shape) → Ordered s → Ordered (shape_over d ds s)
over_ordered d ds i Whole h = by (is_whole d)
  where
    by : (b : Bool) → Ordered (cond b Whole OneRun)
    by true = tt
    by false = tt
over_ordered d ds i OneRun h = by (nat_eq d.extent 1) (is_whole d)
  where
    by : (a b : Bool) → Ordered (cond a OneRun (cond b (Even (count ds) (volume ds)) (Runs (count ds) (volume ds))))
    by true b = tt
    by false true = count_most ds i
    by false false = count_most ds i
over_ordered d ds i (Even c s) h = by (is_whole d)
  where
    by : (b : Bool) → Ordered (cond b (Even c s) (Runs c s))
    by true = h
    by false = h
over_ordered d ds i (Runs c s) h = by (nat_eq d.extent 1)
  where
    by : (a : Bool) → Ordered (cond a (Runs c s) Mixed)
    by true = h
    by false = tt
over_ordered d ds i Mixed h = tt

pub shape_ordered : (ds : List Side) → IsBox ds → Ordered (shape ds)
shape_ordered [] i = tt
shape_ordered (d ∷ ds) i = over_ordered d ds i.2 (shape ds) (shape_ordered ds i.2)
