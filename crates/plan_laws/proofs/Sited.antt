-- Where hoisting ends.
use Rattle.std.proofs.Common.{◌≡◌, ℕ, Bool, true, false, List, [], ◌∷◌, ◌++◌, refl, arith}
use Rattle.std.specs.Prelude.{map, nat_eq, if◌then◌else◌, Result, Ok, Err}
use Rattle.affine_ast.specs.declared.module.Arg.{Arg}
use Rattle.affine_ast.specs.declared.name.Name.{Name}
use Rattle.affine_ast.specs.declared.types.MemrefType.{MemrefType}
use Rattle.affine_ast.specs.Nest.{Nest, Nothing, Loop, Branch, Does}
use Rattle.boxes.specs.Every.{Every}
use Rattle.nest_domain.specs.declared.plan.Options.{Options}
use Rattle.nest_domain.specs.Boxes as region
use Rattle.access_region.specs.Faults.{NoRegion}
use Rattle.placement_texts.specs.Spots.{Spot, Here, Behind, Inside, Other, IsLoop}
use Rattle.plan_laws.specs.Sites.{Holds, loops_round}
use Rattle.plan_laws.specs.Plan.{Site, times, accesses_in, region_at, same_extents, hoisted, hoisted_by}
use Rattle.plan_laws.specs.Law.{IsSited, PlacementsAreSited}

pub every_append : {A : Type 0} (P : A → Type 0) (xs ys : List A) → Every P xs → Every P ys → Every P (xs ++ ys)
every_append P [] ys h k = k
every_append P (x ∷ xs) ys h k = (h.0, every_append P xs ys h.1 k)

pub every_map : {A B : Type 0} (P : A → Type 0) (Q : B → Type 0) (f : A → B) → ((x : A) → P x → Q (f x)) → (xs : List A) → Every P xs → Every Q (map f xs)
every_map P Q f g [] h = tt
every_map P Q f g (x ∷ xs) h = (g x h.0, every_map P Q f g xs h.1)

-- a loop there, round the place
abbrev Round : Spot → Nest → Spot → Type 0
Round s n t = IsLoop t n × Holds t s

rounds : (s : Spot) (n : Nest) → Every (Round s n) (loops_round s n)
rounds s Nothing = nothing s
  where
    nothing : (s : Spot) → Every (Round s Nothing) (loops_round s Nothing)
    nothing Here = tt
    nothing (Behind s) = tt
    nothing (Inside s) = tt
    nothing (Other s) = tt
rounds Here (Loop line v l u step body rest) = tt
rounds (Behind s) (Loop line v l u step body rest) = every_map (Round s rest) (Round (Behind s) (Loop line v l u step body rest)) Behind (λ t h. h) (loops_round s rest) (rounds s rest)
rounds (Inside s) (Loop line v l u step body rest) =
    every_append (Round (Inside s) (Loop line v l u step body rest)) (map Inside (loops_round s body)) (Here ∷ [])
    (every_map (Round s body) (Round (Inside s) (Loop line v l u step body rest)) Inside (λ t h. h) (loops_round s body) (rounds s body)) ((tt, tt), tt)
rounds (Other s) (Loop line v l u step body rest) = tt
rounds Here (Branch line set names first has other rest) = tt
rounds (Behind s) (Branch line set names first has other rest) = every_map (Round s rest) (Round (Behind s) (Branch line set names first has other rest)) Behind (λ t h. h) (loops_round s rest) (rounds s rest)
rounds (Inside s) (Branch line set names first has other rest) = every_map (Round s first) (Round (Inside s) (Branch line set names first has other rest)) Inside (λ t h. h) (loops_round s first) (rounds s first)
rounds (Other s) (Branch line set names first has other rest) = every_map (Round s other) (Round (Other s) (Branch line set names first has other rest)) Other (λ t h. h) (loops_round s other) (rounds s other)
rounds Here (Does line q rest) = tt
rounds (Behind s) (Does line q rest) = every_map (Round s rest) (Round (Behind s) (Does line q rest)) Behind (λ t h. h) (loops_round s rest) (rounds s rest)
rounds (Inside s) (Does line q rest) = tt
rounds (Other s) (Does line q rest) = tt

holds_itself : (s : Spot) (n : Nest) → IsLoop s n → Holds s s
holds_itself Here n h = tt
holds_itself (Behind s) Nothing h = absurd h
holds_itself (Behind s) (Loop line v l u step body rest) h = holds_itself s rest h
holds_itself (Behind s) (Branch line set names first has other rest) h = holds_itself s rest h
holds_itself (Behind s) (Does line q rest) h = holds_itself s rest h
holds_itself (Inside s) Nothing h = absurd h
holds_itself (Inside s) (Loop line v l u step body rest) h = holds_itself s body h
holds_itself (Inside s) (Branch line set names first has other rest) h = holds_itself s first h
holds_itself (Inside s) (Does line q rest) h = absurd h
holds_itself (Other s) Nothing h = absurd h
holds_itself (Other s) (Loop line v l u step body rest) h = absurd h
holds_itself (Other s) (Branch line set names first has other rest) h = holds_itself s other h
holds_itself (Other s) (Does line q rest) h = absurd h

module _ (o : Options) (args : List Arg) (n : Nest) (m : Name) (ty : MemrefType) (s : Spot) where
  abbrev Count : ℕ
  Count = times m (accesses_in o args n s)

  abbrev Sited : Site → Type 0
  Sited = IsSited o args n m ty s

  equal : (a b : ℕ) → nat_eq a b ≡ true → a ≡ b
  equal a b e = grind (arith, e)

  -- one loop further outward
  module _ (t : Spot) (x : Site) (k : Sited x) (round : Round s n t) (further : Site → Site) (more : (y : Site) → Sited y → Sited (further y)) where
    by_extents : (ds : List region.Dimension) (b : Bool) → region_at o args n m ty t ≡ Ok ds → times m (accesses_in o args n t) ≡ Count → Sited (if b then further (record { at = t; region = ds }) else x)
    by_extents ds true is c = more (record { at = t; region = ds }) (record { loop = round.0; holds = round.1; accesses = c; region = is })
    by_extents ds false is c = k

    by_region : (r : Result (List region.Dimension) NoRegion) → region_at o args n m ty t ≡ r → times m (accesses_in o args n t) ≡ Count → Sited (hoisted_by o args n further x t r)
    by_region (Err e) is c = k
    by_region (Ok ds) is c = by_extents ds (same_extents x.region ds) is c

    by_count : (b : Bool) → nat_eq (times m (accesses_in o args n t)) Count ≡ b → Sited (if b then hoisted_by o args n further x t (region_at o args n m ty t) else x)
    by_count true e = by_region (region_at o args n m ty t) refl (equal (times m (accesses_in o args n t)) Count e)
    by_count false e = k

  outward : (ss : List Spot) → Every (Round s n) ss → (x : Site) → Sited x → Sited (hoisted o args n m ty Count ss x)
  outward [] h x k = k
  outward (t ∷ ts) h x k = by_count t x k h.0 (hoisted o args n m ty Count ts) (λ y. outward ts h.1 y) (nat_eq (times m (accesses_in o args n t)) Count) refl

pub sited : PlacementsAreSited
sited o args n m ty s ds loop is =
    outward o args n m ty s (loops_round s n) (rounds s n) (record { at = s; region = ds }) (record { loop = loop; holds = holds_itself s n loop; accesses = refl; region = is })
