-- Outstanding transfers of halves that are there.
use Rattle.std.proofs.Common.{◌≡◌, ℕ, Bool, true, false, List, [], ◌∷◌, ◌++◌, subst}
use Rattle.std.specs.Prelude.{Some, nat_eq, if◌then◌else◌}
use Rattle.bus_model.specs.Engines.{Flight, flight_of, with_flight}
use Rattle.prompt_laws.specs.Rooms.{Room}
use Rattle.order_meaning.specs.Machine.{without_flight}
use Rattle.order_meaning.proofs.Flights.{same_some}
use Rattle.order_memory.specs.Tied.{FlightHome, AllHome}

module _ (rooms : List Room) where
  pub home_behind : (fs : List Flight) (f : Flight) → AllHome rooms fs → FlightHome rooms f → AllHome rooms (fs ++ f ∷ [])
  home_behind [] f all h = (h, tt)
  home_behind (g ∷ fs) f all h = (all.0, home_behind fs f all.1 h)

  pub home_of : (fs : List Flight) (tag : ℕ) (f : Flight) → AllHome rooms fs → flight_of fs tag ≡ Some f → FlightHome rooms f
  home_of [] tag f all e = absurd (cc)
  home_of (g ∷ fs) tag f all e = by (nat_eq g.transfer.tag tag) e (λ q. home_of fs tag f all.1 q)
    where
      by : (b : Bool) → (if b then Some g else flight_of fs tag) ≡ Some f → (flight_of fs tag ≡ Some f → FlightHome rooms f) → FlightHome rooms f
      by true e more = subst (FlightHome rooms) (same_some g f e) all.0
      by false e more = more e

  pub home_without : (fs : List Flight) (tag : ℕ) → AllHome rooms fs → AllHome rooms (without_flight tag fs)
  home_without [] tag all = tt
  home_without (g ∷ fs) tag all = by (nat_eq g.transfer.tag tag) (home_without fs tag all.1)
    where
      by : (b : Bool) → AllHome rooms (without_flight tag fs) → AllHome rooms (if b then fs else g ∷ without_flight tag fs)
      by true more = all.1
      by false more = (all.0, more)

  pub home_with : (tag : ℕ) (g : Flight → Flight) → ((f : Flight) → FlightHome rooms f → FlightHome rooms (g f)) → (fs : List Flight) → AllHome rooms fs → AllHome rooms (with_flight fs tag g)
  home_with tag g keeps [] all = tt
  home_with tag g keeps (f ∷ fs) all = by (nat_eq f.transfer.tag tag) (home_with tag g keeps fs all.1)
    where
      by : (b : Bool) → AllHome rooms (with_flight fs tag g) → AllHome rooms (if b then g f ∷ fs else f ∷ with_flight fs tag g)
      by true more = (keeps f all.0, all.1)
      by false more = (all.0, more)
