-- Outstanding transfers that fit.
use Rattle.std.proofs.Common.{◌≡◌, ℕ, zero, suc, ◌<◌, Bool, true, false, List, [], ◌∷◌, length, map, get_or, refl, arith}
use Rattle.std.specs.Prelude.{◌||◌, nat_eq}
use Rattle.std.specs.List.{All, list_any, IsDistinct, AllByRecursion}
use Rattle.bus_model.specs.declared.transfer.Transfer.{Transfer}
use Rattle.std.proofs.lemmas.List.{length-map}
use Rattle.std.proofs.lemmas.Map.Steps.{length-le_from_distinct_below}
use Rattle.prompt_semantics.specs.Device.{is_started}
use Rattle.prompt_laws.specs.Reaches.{FlightFits, FlightsFit}
use Rattle.transfer_records.specs.Found.{HasPlaces}

not_started : (t : Transfer) (ts : List Transfer) (tag : ℕ) → is_started (t ∷ ts) tag ≡ false → (nat_eq t.tag tag ≡ false) × (is_started ts tag ≡ false)
not_started t ts tag h = by (nat_eq t.tag tag) (is_started ts tag) h
  where
    by : (a b : Bool) → (a || b) ≡ false → (a ≡ false) × (b ≡ false)
    by true b h = absurd (let z : ⊥ = cc in z)
    by false b h = (refl, h)

-- each of the outstanding transfers fits
pub flight_at : (size : ℕ) (ts : List Transfer) (i : ℕ) (d : Transfer) → FlightsFit size ts → i < length ts → FlightFits size (get_or ts i d)
flight_at size [] i d h l = absurd (omega (arith, l))
flight_at size (t ∷ ts) zero d h l = h.0
flight_at size (t ∷ ts) (suc i) d h l = flight_at size ts i d h.2 (omega (arith, l))

-- so its places can be computed
pub has_places : (size : ℕ) (t : Transfer) → FlightFits size t → HasPlaces t
has_places size t h = record { some_chunk = h.some_chunk; fit = λ e below. (let k = h.places_fit e below in omega (arith, k)) }

pub all_have_places : (size : ℕ) (ts : List Transfer) → FlightsFit size ts → All HasPlaces ts
all_have_places size ts h = λ k d lt. has_places size (get_or ts k d) (flight_at size ts k d h lt)

-- room for one more
flip : (a b : ℕ) → nat_eq a b ≡ false → nat_eq b a ≡ false
flip a b h = by (nat_eq b a) refl
  where
    by : (t : Bool) → nat_eq b a ≡ t → t ≡ false
    by true t = grind (arith, t, h)
    by false t = refl

all_else : (ts : List Transfer) (tag : ℕ) → is_started ts tag ≡ false → AllByRecursion (λ y. nat_eq tag y ≡ false) (map (λ (t : Transfer). t.tag) ts)
all_else [] tag h = tt
all_else (t ∷ ts) tag h = let two = not_started t ts tag h in (flip t.tag tag two.0, all_else ts tag two.1)

distinct_tags : (size : ℕ) (ts : List Transfer) → FlightsFit size ts → IsDistinct nat_eq (map (λ (t : Transfer). t.tag) ts)
unfolding IsDistinct
distinct_tags size [] h = tt
distinct_tags size (t ∷ ts) h = (all_else ts t.tag h.1, distinct_tags size ts h.2)

below_all : (size : ℕ) (ts : List Transfer) (q : ℕ) → FlightsFit size ts → list_any (nat_eq q) (map (λ (t : Transfer). t.tag) ts) ≡ true → q < 65536
below_all size [] q h m = absurd (let z : ⊥ = cc in z)
below_all size (t ∷ ts) q h m = by (nat_eq q t.tag) refl m (λ k. below_all size ts q h.2 k)
  where
    by : (b : Bool) → nat_eq q t.tag ≡ b → (b || list_any (nat_eq q) (map (λ (t : Transfer). t.tag) ts)) ≡ true → (list_any (nat_eq q) (map (λ (t : Transfer). t.tag) ts) ≡ true → q < 65536) → q < 65536
    by true e m more = let l = h.0.tag_fits in let same : q ≡ t.tag = grind (arith, e) in omega (arith, l, same)
    by false e m more = more m

pub room_for : (size : ℕ) (ts : List Transfer) (t : Transfer) → FlightsFit size ts → is_started ts t.tag ≡ false → t.tag < 65536 → length ts < 65536
unfolding IsDistinct
room_for size ts t h idle low =
    let k = length-le_from_distinct_below (t.tag ∷ map (λ (t : Transfer). t.tag) ts) 65536 (all_else ts t.tag idle, distinct_tags size ts h) below in
    let l = length-map ts (λ (t : Transfer). t.tag) in
    omega (arith, k, l)
  where
    below : (q : ℕ) → list_any (nat_eq q) (t.tag ∷ map (λ (t : Transfer). t.tag) ts) ≡ true → q < 65536
    below q m = by (nat_eq q t.tag) refl m
      where
        by : (b : Bool) → nat_eq q t.tag ≡ b → (b || list_any (nat_eq q) (map (λ (t : Transfer). t.tag) ts)) ≡ true → q < 65536
        by true e m = let same : q ≡ t.tag = grind (arith, e) in omega (arith, low, same)
        by false e m = below_all size ts q h m
