-- What a list of actions keeps, from one fact about states to another.
use Rattle.std.proofs.Common.{◌≡◌, ℤ, ◌≤ℤ◌, ◌<ℤ◌, List, [], ◌∷◌, ◌++◌, sym, ap, ◌∙◌, subst, Bool, true, false}
use Rattle.std.specs.Prelude.{flat_map, if◌then◌else◌}
use Rattle.direct_meaning.specs.Action.{Action}
use Rattle.direct_meaning.specs.Direct.{Outcome, End, Fault, then_do, folded}
use Rattle.direct_meaning.proofs.Laws.{folded-nil, folded-cons, folded-append}
use Rattle.direct_meaning.proofs.WorkLaws.{Every, Between}
use Rattle.prompt_laws.specs.Along.{Along}

-- U holds at the end, and F at a fault
abbrev pub Ends : {S : Type 0} → (S → Type 0) → (S → Type 0) → Outcome S → Type 0
Ends F U (End s) = U s
Ends F U (Fault k s) = F s

module _ {S : Type 0} (step : Action → S → Outcome S) (P : Action → S → Type 0) (F : S → Type 0) where
  -- from each state of T, P holds along the list, and it ends in a state of U, or at a fault with a state of F
  pub record Keeps (T U : S → Type 0) (xs : List Action) : Type 0 where
    pub along : (s : S) → T s → Along step P xs s
    pub ends : (s : S) → T s → Ends F U (folded step xs s)

  pub keeps_nil : (T U : S → Type 0) → ((s : S) → T s → U s) → Keeps T U []
  unfolding folded
  keeps_nil T U f = record { along = λ s h. tt; ends = λ s h. f s h }

  ends_then : (M U : S → Type 0) (xs : List Action) (o : Outcome S) → Ends F M o → ((s : S) → M s → Ends F U (folded step xs s)) → Ends F U (then_do o (folded step xs))
  ends_then M U xs (End s) h f = f s h
  ends_then M U xs (Fault k s) h f = h

  ends_at : (M : S → Type 0) (o : Outcome S) (t : S) → Ends F M o → o ≡ End t → M t
  ends_at M o t h e = subst (Ends F M) e h

  -- one action, and those behind it
  pub keeps_cons : (T M U : S → Type 0) (a : Action) (xs : List Action) → ((s : S) → T s → P a s × Ends F M (step a s)) → Keeps M U xs → Keeps T U (a ∷ xs)
  keeps_cons T M U a xs f more = record {
    along = λ s h. ((f s h).0, λ t e. more.along t (ends_at M (step a s) t (f s h).1 e));
    ends = λ s h. subst (Ends F U) (sym (folded-cons step a xs s)) (ends_then M U xs (step a s) (f s h).1 more.ends);
  }

  along_append : (xs ys : List Action) (s : S) → Along step P xs s → ((t : S) → folded step xs s ≡ End t → Along step P ys t) → Along step P (xs ++ ys) s
  along_append [] ys s p f = f s (folded-nil step s)
  along_append (a ∷ xs) ys s p f = (p.0, λ t e. along_append xs ys t (p.1 t e) (λ u g. f u (folded-cons step a xs s ∙ ap (λ o. then_do o (folded step xs)) e ∙ g)))

  -- one list, and one behind it
  pub keeps_append : (T M U : S → Type 0) (xs ys : List Action) → Keeps T M xs → Keeps M U ys → Keeps T U (xs ++ ys)
  keeps_append T M U xs ys k more = record {
    along = λ s h. along_append xs ys s (k.along s h) (λ t e. more.along t (ends_at M (folded step xs s) t (k.ends s h) e));
    ends = λ s h. subst (Ends F U) (sym (folded-append step xs ys s)) (ends_then M U ys (folded step xs s) (k.ends s h) more.ends);
  }

  -- the lists of the turns of a loop, one after the other
  pub keeps_turns : (T : S → Type 0) (low high : ℤ) (f : ℤ → List Action) (ts : List ℤ) → Every (Between low high) ts → ((t : ℤ) → low ≤ℤ t → t <ℤ high → Keeps T T (f t)) → Keeps T T (flat_map f ts)
  keeps_turns T low high f [] b k = keeps_nil T T (λ s h. h)
  keeps_turns T low high f (t ∷ ts) b k = keeps_append T T T (f t) (flat_map f ts) (k t b.0.0 b.0.1) (keeps_turns T low high f ts b.1 k)

  -- one list or the other
  pub keeps_either : (T U : S → Type 0) (b : Bool) (xs ys : List Action) → Keeps T U xs → Keeps T U ys → Keeps T U (if b then xs else ys)
  keeps_either T U true xs ys k l = k
  keeps_either T U false xs ys k l = l

  -- from less, to more
  pub keeps_along : (T T' U U' : S → Type 0) (xs : List Action) → ((s : S) → T' s → T s) → ((s : S) → U s → U' s) → Keeps T U xs → Keeps T' U' xs
  keeps_along T T' U U' xs f g k = record { along = λ s h. k.along s (f s h); ends = λ s h. over (folded step xs s) (k.ends s (f s h)) }
    where
      over : (o : Outcome S) → Ends F U o → Ends F U' o
      over (End s) h = g s h
      over (Fault k s) h = h
