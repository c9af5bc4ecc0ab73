-- A way with whether each of its values is needed, gathered from its end and gone along from its start.
use Rattle.std.proofs.Common.{◌≡◌, Bool, List, [], ◌∷◌, ◌++◌, map, reverse, Result, Ok, Err, refl, sym, ap, ◌∙◌, subst, append_assoc, append-nil}
use Rattle.std.proofs.lemmas.List.{reverse-append, map-append}
use Rattle.affine_expr.specs.declared.linear.LinearFault.{LinearFault}
use Rattle.affine_expr.specs.declared.linear.LinearFault.TheVariants.{Wide}
use Rattle.affine_expr.specs.Linear.{◌>>=◌}
use Rattle.affine_ast.specs.declared.name.Name.{Name}
use Rattle.affine_rules.specs.declared.scope.Key.{Key}
use Rattle.nest_domain.specs.declared.step.Mark.{Mark}
use Rattle.nest_domain.specs.declared.step.Step.{Step}
use Rattle.nest_domain.specs.Ways.{Header, needed, used}
use Rattle.nest_domain.specs.Steps.{header_of, mark_of}
use Rattle.nest_domain.specs.Domains.{Known, along_by, along_one, along}
use Rattle.nest_domain.specs.Ready.{ReadyHeader, Ready, ranges_along}
use Rattle.nest_domain.specs.Used.{AreUsed, TakesIn, marked, along_marked}

-- the marks from the first step on
abbrev pub forward : List Mark → List (Header × Bool)
forward ms = reverse (map mark_of ms)

abbrev pub headers : List (Header × Bool) → List Header
headers ms = map (λ m. m.0) ms

pub forward_more : (ms : List Mark) (m : Mark) → forward (ms ++ m ∷ []) ≡ mark_of m ∷ forward ms
forward_more ms m = ap reverse (map-append mark_of ms (m ∷ [])) ∙ reverse-append (map mark_of ms) (mark_of m ∷ [])

-- the steps are gathered from the end on: the marks have those that are done, with the names that are used from before them on
pub record Gathers (all left : List Step) (ms : List Mark) (keys : List Key) (own : List Name) : Type 0 where
  pub way : map header_of all ≡ map header_of left ++ headers (forward ms)
  pub names : AreUsed keys (used (headers (forward ms)) own)
  pub marks : forward ms ≡ marked (headers (forward ms)) own

module _ (all left less : List Step) (ms more : List Mark) (old new : List Key) (own : List Name) (m : Mark) (pop : left ≡ less ++ m.step ∷ []) (push : more ≡ ms ++ m ∷ []) (takes : TakesIn (header_of m.step) m.needed old new) (g : Gathers all left ms old own) where
  ahead : forward more ≡ mark_of m ∷ forward ms
  ahead = ap forward push ∙ forward_more ms m

  taken : (m.needed ≡ needed (header_of m.step) (used (headers (forward ms)) own)) × AreUsed new (used (header_of m.step ∷ headers (forward ms)) own)
  taken = takes (headers (forward ms)) own g.names

  pub gathers_more : Gathers all less more new own
  unfolding marked
  gathers_more = record {
    way = g.way ∙ ap (λ l. map header_of l ++ headers (forward ms)) pop ∙ ap (λ l. l ++ headers (forward ms)) (map-append header_of less (m.step ∷ []))
        ∙ append_assoc (map header_of less) (header_of m.step ∷ []) (headers (forward ms)) ∙ ap (λ l. map header_of less ++ headers l) (sym ahead);
    names = subst (λ l. AreUsed new (used (headers l) own)) (sym ahead) taken.1;
    marks = ahead ∙ (λ i. (header_of m.step, taken.0 i) ∷ g.marks i) ∙ ap (λ l. marked (headers l) own) (sym ahead);
  }

pub gathers_none : (all : List Step) (ms : List Mark) (keys : List Key) (own : List Name) → ms ≡ [] → AreUsed keys own → Gathers all all ms keys own
unfolding marked used
gathers_none all ms keys own e a = record {
  way = sym (append-nil (map header_of all)) ∙ ap (λ l. map header_of all ++ headers (forward l)) (sym e);
  names = subst (λ l. AreUsed keys (used (headers (forward l)) own)) (sym e) a;
  marks = ap forward e ∙ ap (λ l. marked (headers (forward l)) own) (sym e);
}

pub gathers_all : (all left : List Step) (ms : List Mark) (keys : List Key) (own : List Name) → left ≡ [] → Gathers all left ms keys own → forward ms ≡ marked (map header_of all) own
gathers_all all left ms keys own e g = g.marks ∙ ap (λ l. marked l own) (sym (g.way ∙ ap (λ l. map header_of l ++ headers (forward ms)) e))

-- ---- along it
-- what is wanted is what comes of the marks that are left, and these can be gone along
pub record Goes (wanted : Result Known LinearFault) (ms : List Mark) (k : Known) : Type 0 where
  pub same : wanted ≡ along_marked (forward ms) k
  pub ready : Ready (headers (forward ms)) k.ranges

module _ (wanted : Result Known LinearFault) (ms less : List Mark) (m : Mark) (k : Known) (pop : ms ≡ less ++ m ∷ []) (g : Goes wanted ms k) where
  here : forward ms ≡ mark_of m ∷ forward less
  here = ap forward pop ∙ forward_more less m

  first : wanted ≡ (along_by (header_of m.step) m.needed k >>= along_marked (forward less))
  unfolding along_marked
  first = g.same ∙ ap (λ l. along_marked l k) here

  both : ReadyHeader (header_of m.step) k.ranges × Ready (headers (forward less)) (ranges_along (header_of m.step) k.ranges)
  unfolding Ready
  both = subst (λ l. Ready (headers l) k.ranges) here g.ready

  pub ready_first : ReadyHeader (header_of m.step) k.ranges
  ready_first = both.0

  pub goes_on : (h : Known) → along_by (header_of m.step) m.needed k ≡ Ok h → h.ranges ≡ ranges_along (header_of m.step) k.ranges → Goes wanted less h
  goes_on h e r = record {
    same = first ∙ ap (λ w. w >>= along_marked (forward less)) e;
    ready = subst (Ready (headers (forward less))) (sym r) both.1;
  }

  pub goes_wide : along_by (header_of m.step) m.needed k ≡ Err Wide → wanted ≡ Err Wide
  goes_wide e = first ∙ ap (λ w. w >>= along_marked (forward less)) e

pub went : (wanted : Result Known LinearFault) (ms : List Mark) (k : Known) → ms ≡ [] → Goes wanted ms k → wanted ≡ Ok k
unfolding along_marked
went wanted ms k e g = g.same ∙ ap (λ l. along_marked (forward l) k) e

-- ---- the way to a place
pub marked_headers : (hs : List Header) (own : List Name) → headers (marked hs own) ≡ hs
unfolding marked
marked_headers [] own = refl
marked_headers (h ∷ hs) own = ap (λ l. h ∷ l) (marked_headers hs own)

pub along_is : (hs : List Header) (own : List Name) (k : Known) → along hs own k ≡ along_marked (marked hs own) k
unfolding along marked along_marked
along_is [] own k = refl
along_is (h ∷ hs) own k = by (along_one h (used hs own) k) (λ g. along_is hs own g)
  where
    by : (w : Result Known LinearFault) → ((g : Known) → along hs own g ≡ along_marked (marked hs own) g) → (w >>= along hs own) ≡ (w >>= along_marked (marked hs own))
    by (Ok g) f = f g
    by (Err e) f = refl
