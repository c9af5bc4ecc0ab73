-- Loops at a depth stand in text order, and a loop that holds two of them holds each between.
use Rattle.std.proofs.Common.{inl, inr, ℕ, zero, suc, List, [], ◌∷◌, ◌++◌}
use Rattle.std.specs.Prelude.{map, Option, Some, None}
use Rattle.affine_ast.specs.Nest.{Nest, Nothing, Loop, Branch, Does}
use Rattle.boxes.specs.Every.{Every}
use Rattle.placement_texts.specs.Spots.{Spot, Here, Behind, Inside, Other, IsLoop}
use Rattle.plan_laws.specs.Sites.{Holds, loops_at}
use Rattle.staged_peaks.specs.Living.{last_of, HoldsOne}

-- the second place stands behind the loop at the first one
abbrev pub Before : Spot → Spot → Type 0
Before Here (Behind t) = Unit {0}
Before (Behind s) (Behind t) = Before s t
Before (Inside s) (Inside t) = Before s t
Before (Inside s) (Other t) = Unit {0}
Before (Inside s) (Behind t) = Unit {0}
Before (Other s) (Other t) = Before s t
Before (Other s) (Behind t) = Unit {0}
Before s t = ⊥

abbrev pub Ordered : List Spot → Type 0
Ordered [] = Unit {0}
Ordered (s ∷ ss) = Every (Before s) ss × Ordered ss

every_any : (P : Spot → Type 0) → ((s : Spot) → P s) → (ss : List Spot) → Every P ss
every_any P f [] = tt
every_any P f (s ∷ ss) = (f s, every_any P f ss)

every_image : (P : Spot → Type 0) (f : Spot → Spot) (ss : List Spot) → Every (λ s. P (f s)) ss → Every P (map f ss)
every_image P f [] h = tt
every_image P f (s ∷ ss) h = (h.0, every_image P f ss h.1)

pub every_both : (P : Spot → Type 0) (ss ts : List Spot) → Every P ss → Every P ts → Every P (ss ++ ts)
every_both P [] ts h k = k
every_both P (s ∷ ss) ts h k = (h.0, every_both P ss ts h.1 k)

-- in one region
under : (f : Spot → Spot) → ((s t : Spot) → Before s t → Before (f s) (f t)) → (ss : List Spot) → Ordered ss → Ordered (map f ss)
under f g [] h = tt
under f g (s ∷ ss) h = (every_image (Before (f s)) f ss (weaker ss h.0), under f g ss h.1)
  where
    weaker : (ts : List Spot) → Every (Before s) ts → Every (λ t. Before (f s) (f t)) ts
    weaker [] k = tt
    weaker (t ∷ ts) k = (g s t k.0, weaker ts k.1)

-- one region behind another
beside : (f : Spot → Spot) (ts : List Spot) → ((s : Spot) → Every (Before (f s)) ts) → (ss : List Spot) → Ordered (map f ss) → Ordered ts → Ordered (map f ss ++ ts)
beside f ts g [] h k = k
beside f ts g (s ∷ ss) h k = (every_both (Before (f s)) (map f ss) ts h.0 (g s), beside f ts g ss h.1 k)

pub loops_ordered : (depth : ℕ) (n : Nest) → Ordered (loops_at depth n)
loops_ordered depth Nothing = tt
loops_ordered zero (Loop line v l u step body rest) =
    (every_image (Before Here) Behind (loops_at zero rest) (every_any (λ s. Before Here (Behind s)) (λ s. tt) (loops_at zero rest)), under Behind (λ s t h. h) (loops_at zero rest) (loops_ordered zero rest))
loops_ordered (suc depth) (Loop line v l u step body rest) =
    let ins = loops_at depth body in
    let rests = loops_at (suc depth) rest in
    beside Inside (map Behind rests) (λ s. every_image (Before (Inside s)) Behind rests (every_any (λ t. Before (Inside s) (Behind t)) (λ t. tt) rests)) ins
    (under Inside (λ s t h. h) ins (loops_ordered depth body)) (under Behind (λ s t h. h) rests (loops_ordered (suc depth) rest))
loops_ordered depth (Branch line set names first has other rest) =
    let ins = loops_at depth first in
    let others = loops_at depth other in
    let rests = loops_at depth rest in
    beside Inside (map Other others ++ map Behind rests)
    (λ s. every_both (Before (Inside s)) (map Other others) (map Behind rests) (every_image (Before (Inside s)) Other others (every_any (λ t. Before (Inside s) (Other t)) (λ t. tt) others))
    (every_image (Before (Inside s)) Behind rests (every_any (λ t. Before (Inside s) (Behind t)) (λ t. tt) rests))) ins
    (under Inside (λ s t h. h) ins (loops_ordered depth first))
    (beside Other (map Behind rests) (λ s. every_image (Before (Other s)) Behind rests (every_any (λ t. Before (Other s) (Behind t)) (λ t. tt) rests)) others
    (under Other (λ s t h. h) others (loops_ordered depth other)) (under Behind (λ s t h. h) rests (loops_ordered depth rest)))
loops_ordered depth (Does line q rest) = under Behind (λ s t h. h) (loops_at depth rest) (loops_ordered depth rest)

-- each is a loop
pub loops_are_loops : (depth : ℕ) (n : Nest) → Every (λ s. IsLoop s n) (loops_at depth n)
loops_are_loops depth Nothing = tt
loops_are_loops zero (Loop line v l u step body rest) = (tt, every_image (λ s. IsLoop s (Loop line v l u step body rest)) Behind (loops_at zero rest) (loops_are_loops zero rest))
loops_are_loops (suc depth) (Loop line v l u step body rest) =
    let P : Spot → Type 0 = λ s. IsLoop s (Loop line v l u step body rest) in
    every_both P (map Inside (loops_at depth body)) (map Behind (loops_at (suc depth) rest)) (every_image P Inside (loops_at depth body) (loops_are_loops depth body)) (every_image P Behind (loops_at (suc depth) rest) (loops_are_loops (suc depth) rest))
loops_are_loops depth (Branch line set names first has other rest) =
    let P : Spot → Type 0 = λ s. IsLoop s (Branch line set names first has other rest) in
    every_both P (map Inside (loops_at depth first)) (map Other (loops_at depth other) ++ map Behind (loops_at depth rest)) (every_image P Inside (loops_at depth first) (loops_are_loops depth first))
    (every_both P (map Other (loops_at depth other)) (map Behind (loops_at depth rest)) (every_image P Other (loops_at depth other) (loops_are_loops depth other)) (every_image P Behind (loops_at depth rest) (loops_are_loops depth rest)))
loops_are_loops depth (Does line q rest) = every_image (λ s. IsLoop s (Does line q rest)) Behind (loops_at depth rest) (loops_are_loops depth rest)

-- ---- between
between : (t a b c : Spot) → Before a b → Before b c → Holds t a → Holds t c → Holds t b
between Here Here Here Here x y h k = absurd x
between Here Here (Behind b) Here x y h k = absurd y
between Here Here (Inside b) Here x y h k = absurd x
between Here Here (Other b) Here x y h k = absurd x
between Here Here b (Behind c) x y h k = absurd k
between Here Here Here (Inside c) x y h k = absurd x
between Here Here (Behind b) (Inside c) x y h k = absurd y
between Here Here (Inside b) (Inside c) x y h k = absurd x
between Here Here (Other b) (Inside c) x y h k = absurd x
between Here Here b (Other c) x y h k = absurd k
between Here (Behind a) b c x y h k = absurd h
between Here (Inside a) Here Here x y h k = absurd x
between Here (Inside a) (Behind b) Here x y h k = absurd y
between Here (Inside a) (Inside b) Here x y h k = absurd y
between Here (Inside a) (Other b) Here x y h k = absurd y
between Here (Inside a) b (Behind c) x y h k = absurd k
between Here (Inside a) Here (Inside c) x y h k = absurd x
between Here (Inside a) (Behind b) (Inside c) x y h k = absurd y
between Here (Inside a) (Inside b) (Inside c) x y h k = tt
between Here (Inside a) (Other b) (Inside c) x y h k = absurd y
between Here (Inside a) b (Other c) x y h k = absurd k
between Here (Other a) b c x y h k = absurd h
between (Behind t) Here b c x y h k = absurd h
between (Behind t) (Behind a) b Here x y h k = absurd k
between (Behind t) (Behind a) Here (Behind c) x y h k = absurd x
between (Behind t) (Behind a) (Behind b) (Behind c) x y h k = between t a b c x y h k
between (Behind t) (Behind a) (Inside b) (Behind c) x y h k = absurd x
between (Behind t) (Behind a) (Other b) (Behind c) x y h k = absurd x
between (Behind t) (Behind a) b (Inside c) x y h k = absurd k
between (Behind t) (Behind a) b (Other c) x y h k = absurd k
between (Behind t) (Inside a) b c x y h k = absurd h
between (Behind t) (Other a) b c x y h k = absurd h
between (Inside t) Here b c x y h k = absurd h
between (Inside t) (Behind a) b c x y h k = absurd h
between (Inside t) (Inside a) b Here x y h k = absurd k
between (Inside t) (Inside a) b (Behind c) x y h k = absurd k
between (Inside t) (Inside a) Here (Inside c) x y h k = absurd x
between (Inside t) (Inside a) (Behind b) (Inside c) x y h k = absurd y
between (Inside t) (Inside a) (Inside b) (Inside c) x y h k = between t a b c x y h k
between (Inside t) (Inside a) (Other b) (Inside c) x y h k = absurd y
between (Inside t) (Inside a) b (Other c) x y h k = absurd k
between (Inside t) (Other a) b c x y h k = absurd h
between (Other t) Here b c x y h k = absurd h
between (Other t) (Behind a) b c x y h k = absurd h
between (Other t) (Inside a) b c x y h k = absurd h
between (Other t) (Other a) b Here x y h k = absurd k
between (Other t) (Other a) b (Behind c) x y h k = absurd k
between (Other t) (Other a) b (Inside c) x y h k = absurd k
between (Other t) (Other a) Here (Other c) x y h k = absurd x
between (Other t) (Other a) (Behind b) (Other c) x y h k = absurd y
between (Other t) (Other a) (Inside b) (Other c) x y h k = absurd x
between (Other t) (Other a) (Other b) (Other c) x y h k = between t a b c x y h k

-- ---- a loop that holds a block so far, and the next one, holds the last one
pub every_middle : (P : Spot → Type 0) (ss : List Spot) (s : Spot) (ts : List Spot) → Every P (ss ++ s ∷ ts) → P s
every_middle P [] s ts h = h.0
every_middle P (x ∷ ss) s ts h = every_middle P ss s ts h.1

abbrev pub HeldBy : Spot → Option Spot → Type 0
HeldBy t None = ⊥
HeldBy t (Some s) = Holds t s

pub caught : (bs : List Spot) (s : Spot) (rest : List Spot) → Ordered (bs ++ s ∷ rest) → (t : Spot) → Holds t s → HoldsOne t bs → HeldBy t (last_of bs)
caught [] s rest o t h k = absurd k
caught (b ∷ []) s rest o t h (inl k) = k
caught (b ∷ []) s rest o t h (inr k) = absurd k
caught (b ∷ c ∷ bs) s rest o t h (inl k) = caught (c ∷ bs) s rest o.1 t h (inl (between t b c s o.0.0 (every_middle (Before c) bs s rest o.1.0) k h))
caught (b ∷ c ∷ bs) s rest o t h (inr k) = caught (c ∷ bs) s rest o.1 t h k

-- the next block stands behind the last one
abbrev pub IsNext : Option Spot → Spot → Type 0
IsNext None s = Unit {0}
IsNext (Some b) s = Before b s

pub follows : (bs : List Spot) (s : Spot) (rest : List Spot) → Ordered (bs ++ s ∷ rest) → IsNext (last_of bs) s
follows [] s rest o = tt
follows (b ∷ []) s rest o = o.0.0
follows (b ∷ c ∷ bs) s rest o = follows (c ∷ bs) s rest o.1

-- ---- a loop in a loop
pub holds_further : (t a b : Spot) → Holds t a → Holds a b → Holds t b
holds_further Here Here Here h k = tt
holds_further Here Here (Behind b) h k = absurd k
holds_further Here Here (Inside b) h k = tt
holds_further Here Here (Other b) h k = absurd k
holds_further Here (Behind a) b h k = absurd h
holds_further Here (Inside a) Here h k = absurd k
holds_further Here (Inside a) (Behind b) h k = absurd k
holds_further Here (Inside a) (Inside b) h k = tt
holds_further Here (Inside a) (Other b) h k = absurd k
holds_further Here (Other a) b h k = absurd h
holds_further (Behind t) Here b h k = absurd h
holds_further (Behind t) (Behind a) Here h k = absurd k
holds_further (Behind t) (Behind a) (Behind b) h k = holds_further t a b h k
holds_further (Behind t) (Behind a) (Inside b) h k = absurd k
holds_further (Behind t) (Behind a) (Other b) h k = absurd k
holds_further (Behind t) (Inside a) b h k = absurd h
holds_further (Behind t) (Other a) b h k = absurd h
holds_further (Inside t) Here b h k = absurd h
holds_further (Inside t) (Behind a) b h k = absurd h
holds_further (Inside t) (Inside a) Here h k = absurd k
holds_further (Inside t) (Inside a) (Behind b) h k = absurd k
holds_further (Inside t) (Inside a) (Inside b) h k = holds_further t a b h k
holds_further (Inside t) (Inside a) (Other b) h k = absurd k
holds_further (Inside t) (Other a) b h k = absurd h
holds_further (Other t) Here b h k = absurd h
holds_further (Other t) (Behind a) b h k = absurd h
holds_further (Other t) (Inside a) b h k = absurd h
holds_further (Other t) (Other a) Here h k = absurd k
holds_further (Other t) (Other a) (Behind b) h k = absurd k
holds_further (Other t) (Other a) (Inside b) h k = absurd k
holds_further (Other t) (Other a) (Other b) h k = holds_further t a b h k
