-- A visit of a loop, with turns of the loops within it still to come.
use Rattle.std.proofs.Common.{◌≡◌, ◌+◌, List, [], ◌∷◌, ◌++◌, length, Some, Result, Ok, Err, ℤ, refl, sym, ◌∙◌, ap, subst, arith, append_assoc, append-nil, length-append}
use Rattle.std.proofs.lemmas.Int.{ints}
use Rattle.affine_expr.specs.declared.linear.LinearFault.{LinearFault}
use Rattle.affine_expr.specs.Linear.{◌>>=◌}
use Rattle.affine_expr.proofs.FormValues.{Gives, then}
use Rattle.affine_ast.specs.declared.name.Name.{Name}
use Rattle.affine_ast.specs.Intervals.{first_turn, last_end, turn_range}
use Rattle.affine_ast.specs.Names.{put}
use Rattle.direct_meaning.specs.Static.{Env, knows, lower_of, upper_of}
use Rattle.direct_meaning.specs.Actions.{after_plain, behind}
use Rattle.direct_meaning.specs.Work.{ranges_after}
use Rattle.direct_meaning.proofs.RangesHold.{RangesHold, put_in, plain_in, lower_in, upper_in}
use Rattle.nest_domain.specs.Ways.{Header, Round, Given, Except, Behind, Past, bound_names, used_before, used}
use Rattle.nest_domain.specs.Domains.{Known, in_loop, in_condition, behind_plain, along_one, along}
use Rattle.nest_domain.specs.Visits.{Visits}
use Rattle.affine_ast.specs.declared.image.Cells.{Cells}
use Rattle.affine_ast.specs.declared.module.Arg.{Arg}
use Rattle.direct_meaning.specs.Memory.{FitsArgs, empty_env, placed_args, start_env}
use Rattle.nest_domain.specs.Ways.{loop_count}
use Rattle.nest_domain.specs.Domains.{symbol_count, with_arguments, nothing_known}
use Rattle.nest_domain.proofs.Walks.{Holds, Reached, AffineWay, loop_reached, condition_reached, plain_reached, steps_up, turn_within}
use Rattle.nest_domain.proofs.Places.{Begun, arguments_begun, all_stand, fits_length, visits_length}

-- ---- ways one behind another
pub used_append : (ws hs : List Header) (own : List Name) → used (ws ++ hs) own ≡ used ws (used hs own)
unfolding used
used_append [] hs own = refl
used_append (Round v l u s ∷ ws) hs own = ap (λ x. bound_names l ++ (bound_names u ++ x)) (used_append ws hs own)
used_append (Given set names ∷ ws) hs own = ap (λ x. names ++ x) (used_append ws hs own)
used_append (Except set names first ∷ ws) hs own = used_append ws hs own
used_append (Behind p ∷ ws) hs own = ap (used_before p) (used_append ws hs own)
used_append (Past n ∷ ws) hs own = used_append ws hs own

pub along_append : (ws hs : List Header) (own : List Name) (k : Known) → along (ws ++ hs) own k ≡ (along ws (used hs own) k >>= along hs own)
unfolding along
along_append [] hs own k = refl
along_append (h ∷ ws) hs own k =
    ap (λ names. along_one h names k >>= along (ws ++ hs) own) (used_append ws hs own)
    ∙ by (along_one h (used ws (used hs own)) k) (λ g. along_append ws hs own g)
  where
    by : (w : Result Known LinearFault) → ((g : Known) → along (ws ++ hs) own g ≡ (along ws (used hs own) g >>= along hs own))
        → (w >>= along (ws ++ hs) own) ≡ ((w >>= along ws (used hs own)) >>= along hs own)
    by (Ok g) f = f g
    by (Err e) f = refl

-- ---- what is known at a loop's visit holds, with the rest of the turns still to come
pub record ArrivedTo (p rest : List ℤ) (g : Env) (k : Known) : Type 0 where
  pub more : List ℤ
  pub long : length (p ++ more) ≡ k.next
  pub holds : Holds k.next (p ++ more) rest k g.known
  pub ranges : RangesHold g k.ranges

arrived_to_from : (p more rest : List ℤ) (g : Env) (w : Result Known LinearFault) → Gives w (ArrivedTo (p ++ more) rest g) → Gives w (ArrivedTo p rest g)
arrived_to_from p more rest g (Ok k) h = record {
  more = more ++ h.more;
  long = ap length (sym (append_assoc p more h.more)) ∙ h.long;
  holds = subst (λ q. Holds k.next q rest k g.known) (append_assoc p more h.more) h.holds;
  ranges = h.ranges;
}
arrived_to_from p more rest g (Err e) h = tt

pub along_arrives_to : (hs : List Header) (own : List Name) (k : Known) (e g : Env) (ts rest p : List ℤ) → AffineWay hs → Visits hs e ts g → length p ≡ k.next → RangesHold e k.ranges → Holds k.next p (ts ++ rest) k e.known
    → Gives (along hs own k) (ArrivedTo p rest g)
unfolding along
along_arrives_to [] own k e g ts rest p a v long w h =
    let same = v.1 in
    record {
      more = [];
      long = ap length (append-nil p) ∙ long;
      holds = subst (λ q. Holds k.next q rest k g.known) (sym (append-nil p)) (subst (λ us. Holds k.next p (us ++ rest) k g.known) v.0 (subst (λ x. Holds k.next p (ts ++ rest) k x.known) same h));
      ranges = subst (λ x. RangesHold x k.ranges) same w;
    }
along_arrives_to (Round v l u s ∷ hs) own k e g [] rest p a vis long w h = absurd vis
along_arrives_to (Round v l u s ∷ hs) own k e g (t ∷ ts) rest p a vis long w h =
    let low = lower_in e k.ranges l w a.0 in
    let high = upper_in e k.ranges u w a.1 in
    let from = steps_up p k e long (lower_of e l) s t vis.0.0 a.2 vis.0.1 in
    let here = put_in e k.ranges v (Some t) (turn_range (first_turn k.ranges l) (last_end k.ranges u)) (turn_within (first_turn k.ranges l) (last_end k.ranges u) (lower_of e l) (upper_of e u) t low high from vis.0.2) w in
    then (in_loop v l u s k) (along hs own) (Reached p (ts ++ rest) (knows e v t).known (put k.ranges v (turn_range (first_turn k.ranges l) (last_end k.ranges u)))) (ArrivedTo p rest g)
    (loop_reached p k e long v l u s t (ts ++ rest) a.2 vis.0 h) (λ k1 r.
    arrived_to_from p r.more rest g (along hs own k1) (along_arrives_to hs own k1 (knows e v t) g ts rest (p ++ r.more) a.3 vis.1 r.long (subst (RangesHold (knows e v t)) (sym r.ranges) here) r.holds))
along_arrives_to (Given set names ∷ hs) own k e g ts rest p a vis long w h =
    then (in_condition set names k) (along hs own) (Reached p (ts ++ rest) e.known k.ranges) (ArrivedTo p rest g) (condition_reached p k e long set names (ts ++ rest) vis.0 h) (λ k1 r.
    arrived_to_from p r.more rest g (along hs own k1) (along_arrives_to hs own k1 e g ts rest (p ++ r.more) a vis.1 r.long (subst (RangesHold e) (sym r.ranges) w) r.holds))
along_arrives_to (Except set names first ∷ hs) own k e g ts rest p a vis long w h = along_arrives_to hs own k (behind first e) g ts rest p a vis.1 long w h
along_arrives_to (Behind pl ∷ hs) own k e g ts rest p a vis long w h =
    then (behind_plain pl (used hs own) k) (along hs own) (Reached p (ts ++ rest) (after_plain pl e).known (ranges_after pl k.ranges)) (ArrivedTo p rest g) (plain_reached p k e long pl (used hs own) (ts ++ rest) a.0 w h) (λ k1 r.
    arrived_to_from p r.more rest g (along hs own k1) (along_arrives_to hs own k1 (after_plain pl e) g ts rest (p ++ r.more) a.1 vis r.long (subst (RangesHold (after_plain pl e)) (sym r.ranges) (plain_in pl e k.ranges a.0 w)) r.holds))
along_arrives_to (Past n ∷ hs) own k e g ts rest p a vis long w h = along_arrives_to hs own k (behind n e) g ts rest p a vis long w h

-- at the visit of a loop of a module, on the way to a place within it
pub loop_arrives : (args : List Arg) (cells : List Cells) (zs : List ℤ) (way inner : List Header) (own : List Name) (ts us : List ℤ) (f : Env) → FitsArgs args cells zs → AffineWay way → Visits way (start_env args zs) ts f
    → length us ≡ loop_count inner → loop_count (way ++ inner) ≡ loop_count way + loop_count inner
    → Gives (with_arguments args (nothing_known (symbol_count args + loop_count (way ++ inner))) >>= along way own) (ArrivedTo (zs ++ (ts ++ us)) us f)
unfolding start_env
loop_arrives args cells zs way inner own ts us f fits a v count loops =
    let n = symbol_count args + loop_count (way ++ inner) in
    let p = zs ++ (ts ++ us) in
    let long : length p ≡ n = omega (arith, length-append zs (ts ++ us), length-append ts us, fits_length args cells zs fits, visits_length way _ ts f v, count, loops) in
    then (with_arguments args (nothing_known n)) (along way own) (Begun p (ts ++ us) (placed_args args zs).env) (ArrivedTo p us f)
    (arguments_begun p (ts ++ us) args (record { env = empty_env; memrefs = 0; elements = 0; symbols = zs }) cells (nothing_known n) fits (record {
      long = long;
      holds = record { forms = λ m. tt; turns = all_stand [] p; symbols = tt; loops = tt; conditions = tt; locals = tt };
      ranges = λ m. record { low = omega (arith, ints); high = omega (arith, ints) };
    })) (λ k b. along_arrives_to way own k (placed_args args zs).env f ts us p a v b.long b.ranges b.holds)
