-- The plan, one memref and one block further.
use Rattle.std.proofs.Common.{◌≡◌, ℕ, suc, ◌+◌, ◌<◌, ◌≤◌, List, [], ◌∷◌, ◌++◌, length, map, take, drop, get_or, sym, ap, ◌∙◌, subst, append_assoc, append-nil}
use Rattle.std.proofs.lemmas.List.{take_more, map_more, take-map, length-map, get_or-map}
use Rattle.affine_ast.specs.declared.name.Name.{Name}
use Rattle.affine_ast.specs.Validity.{IsValid}
use Rattle.nest_domain.specs.declared.plan.Decision.{Decision}
use Rattle.nest_domain.specs.declared.plan.Outcome.{Outcome}
use Rattle.placement_regions.specs.Sites.{from_spot, way_to}
use Rattle.placement_stage.specs.Places.{spot_of}
use Rattle.placement_texts.specs.Spots.{Spot, Here}
use Rattle.text_places.specs.Blocks.{Block}
use Rattle.text_places.specs.declared.memrefs.Named.{Named}
use Rattle.text_places.specs.Finding.{named}
use Rattle.loop_paths.specs.declared.paths.LoopPath.{LoopPath}
use Rattle.plan_laws.specs.Plan.{Asked, Planned, firsts, accesses_in, argument_number, decision, steps_with, asked_in, asked_from}
use Rattle.plan_theorem.specs.Law.{IsWritten}
use Rattle.plan_tests.specs.declared.tests.Tests.{Tests}
use Rattle.plan_tests.specs.Testing.{TestsFor, AreFew, Goes}
use Rattle.untested_plans.specs.Law.{PlacementsStandAside, AreAside, decided_of}
use Rattle.hoisted_sites.specs.declared.standing.Asking.{Asking}
use Rattle.hoisted_sites.specs.Hoisting.{module_of, text_of}
use Rattle.copy_place.specs.declared.blocks.Planning.{Planning}
use Rattle.copy_place.specs.Planning.{settled_for, Decides, blocks_of, IsBlockOf, IsPlanning, IsPlannedTo}
use Rattle.copy_place.proofs.Standing.{line_found}
use Rattle.copy_place.proofs.Listed.{split_at, take_whole, in_append, one_block_more, around_one, decided_more}

module _ (a : Asking) (number : ℕ) (p : LoopPath) (b : Block) (k : IsBlockOf a number p b) where
  abbrev Place : Spot
  Place = spot_of p.at.steps

  abbrev Blocks : List Spot
  Blocks = blocks_of a

  abbrev So : List Asked → Planned
  So = decided_of a.options (module_of a)

  abbrev Before : List Asked
  Before = asked_from a.options (module_of a).args (text_of a) 0 (take number Blocks)

  abbrev Here_ : List Name → List Asked
  Here_ = asked_in a.options (module_of a).args (text_of a) number Place

  abbrev For : List Spot → List Asked → Tests → Type 0
  For blocks as_ = TestsFor a.options (module_of a) blocks (So as_).steps

  one_more : take (number + 1) Blocks ≡ take number Blocks ++ Place ∷ []
  one_more = take_more Blocks number Here k.within ∙ ap (λ s. take number Blocks ++ s ∷ []) (sym k.is)

  -- ---- before the first memref
  pub begins : (old : Planning) (new : Tests) → Goes old.tests p new → AreFew new → IsPlannedTo a number old
      → IsPlanning a (take (number + 1) Blocks) (Before ++ []) (record { decisions = old.decisions; tests = new })
  begins old new went few h =
      let e : Before ++ [] ≡ Before = append-nil Before in
      let rest = split_at Blocks number Here k.within ∙ ap (λ s. take number Blocks ++ s ∷ drop (suc number) Blocks) (sym k.is) in
      let t = went a.options (module_of a) (take number Blocks) Place (drop (suc number) Blocks) (So Before).steps rest k.path.found h.tests in
      record {
        decisions = h.decisions ∙ ap (λ l. (So l).decisions) (sym e);
        tests = subst (λ l. For (take (number + 1) Blocks) l new) (sym e) (subst (λ l. For l Before new) (sym one_more) t);
        few = few;
      }

  -- ---- one memref more
  module _ (law : PlacementsStandAside) (valid : IsValid (module_of a)) (written : IsWritten (module_of a)) (ms : List Named) (i : ℕ) (x : Named) (h : i < length ms) (is : x ≡ get_or ms i x)
      (memrefs : map named ms ≡ firsts [] (accesses_in a.options (module_of a).args (text_of a) Place)) where
    abbrev Next : Asked
    Next = record { block = number; at = Place; memref = named x }

    abbrev Done : List Asked
    Done = Before ++ Here_ (map named (take i ms))

    one_further : Before ++ Here_ (map named (take (i + 1) ms)) ≡ Done ++ Next ∷ []
    one_further =
        ap (λ l. Before ++ Here_ l) (map_more named ms i x h ∙ ap (λ y. map named (take i ms) ++ named y ∷ []) (sym is))
        ∙ ap (λ l. Before ++ l) (in_append a.options (module_of a).args (text_of a) number Place (map named (take i ms)) (named x ∷ []))
        ∙ sym (append_assoc Before (Here_ (map named (take i ms))) (Next ∷ []))

    aside : AreAside a.options (module_of a) (named x) Place (So Done).steps
    aside =
        let places : get_or Blocks number Here ≡ Place = sym k.is in
        let names = map named ms in
        let all = memrefs ∙ ap (λ s. firsts [] (accesses_in a.options (module_of a).args (text_of a) s)) k.is in
        let within : i < length names = subst (λ j. i < j) (sym (length-map ms named)) h in
        let r = around_one a.options (module_of a).args (text_of a) Blocks number names i (named x) k.within all within in
        let front : asked_in a.options (module_of a).args (text_of a) number (get_or Blocks number Here) (take i names) ≡ Here_ (map named (take i ms)) = λ j. asked_in a.options (module_of a).args (text_of a) number (places j) (take-map_ j) in
        let one : ◌≡◌ {A = Asked} (record { block = number; at = get_or Blocks number Here; memref = get_or names i (named x) }) Next = λ j. record { block = number; at = places j; memref = (get_or-map named ms i x (named x) h ∙ ap named (sym is)) j } in
        law a.options (module_of a) valid written Done Next r.0 (r.1 ∙ (λ j. (Before ++ front j) ++ one j ∷ r.0))
      where
        take-map_ : take i (map named ms) ≡ map named (take i ms)
        take-map_ = take-map named i ms

    pub goes_on : (old new : Planning) (out : Outcome) (d : Decision) → IsPlanning a (take (number + 1) Blocks) Done old → Decides a (named x) Place old.tests out new.tests → AreFew new.tests
        → new.decisions.items ≡ old.decisions.items ++ d ∷ [] → d ≡ record { block = number; line = b.line; memref = argument_number (module_of a).args (named x); outcome = out }
        → IsPlanning a (take (number + 1) Blocks) (Before ++ Here_ (map named (take (i + 1) ms))) new
    goes_on old new out d h dec few items made =
        let so = So Done in
        let y = settled_for a so.steps (named x) Place in
        let r = dec (take number Blocks) so.steps (subst (λ l. For l Done old.tests) one_more h.tests) aside in
        let all : So (Before ++ Here_ (map named (take (i + 1) ms))) ≡ record { steps = steps_with a.options (module_of a).args (text_of a) so.steps y; decisions = so.decisions ++ decision a.options (module_of a).args (text_of a) Next y ∷ [] } =
        ap So one_further ∙ decided_more a.options (module_of a) Done Next in
        let line = line_found (way_to Place (text_of a)) (from_spot Place (text_of a)) b k.stands.is in
        let same : d ≡ decision a.options (module_of a).args (text_of a) Next y = made ∙ (λ j. record { block = number; line = sym line j; memref = argument_number (module_of a).args (named x); outcome = r.is j }) in
        record {
          decisions = items ∙ (λ j. h.decisions j ++ same j ∷ []) ∙ ap (λ s. s.decisions) (sym all);
          tests = subst (λ s. TestsFor a.options (module_of a) (take (number + 1) Blocks) s.steps new.tests) (sym all)
              (subst (λ l. TestsFor a.options (module_of a) l (steps_with a.options (module_of a).args (text_of a) so.steps y) new.tests) (sym one_more) r.kept);
          few = few;
        }

  -- ---- behind the last memref
  pub ends : (ms : List Named) (i : ℕ) (end : Planning) → length ms ≤ i → map named ms ≡ firsts [] (accesses_in a.options (module_of a).args (text_of a) Place)
      → IsPlanning a (take (number + 1) Blocks) (Before ++ Here_ (map named (take i ms))) end → IsPlannedTo a (number + 1) end
  ends ms i end h memrefs t =
      let whole : Before ++ Here_ (map named (take i ms)) ≡ asked_from a.options (module_of a).args (text_of a) 0 (take (number + 1) Blocks) =
      ap (λ l. Before ++ Here_ (map named l)) (take_whole ms i h) ∙ ap (λ l. Before ++ Here_ l) memrefs
      ∙ ap (λ s. Before ++ asked_in a.options (module_of a).args (text_of a) number s (firsts [] (accesses_in a.options (module_of a).args (text_of a) s))) k.is
      ∙ sym (one_block_more a.options (module_of a).args (text_of a) Blocks number k.within) in
      subst (λ l. IsPlanning a (take (number + 1) Blocks) l end) whole t
