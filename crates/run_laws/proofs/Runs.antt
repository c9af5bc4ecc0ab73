-- What a list of actions keeps, from one fact about states to another.
use Rattle.std.proofs.Common.{◌≡◌, ℤ, ◌≤ℤ◌, ◌<ℤ◌, List, [], ◌∷◌, ◌++◌, sym, ap, ◌∙◌, subst, Bool, true, false}
use Rattle.std.specs.Prelude.{flat_map, if◌then◌else◌}
use Rattle.direct_meaning.specs.Action.{Action}
use Rattle.direct_meaning.specs.Direct.{Outcome, End, Fault, then_do, folded, State, direct_step}
use Rattle.direct_meaning.proofs.Laws.{folded-nil, folded-cons, folded-append}
use Rattle.direct_meaning.proofs.WorkLaws.{Every, Between}
use Rattle.run_laws.specs.Along.{Along}

-- U holds at the end, and S of the slow memory at a fault
abbrev pub Ends : (List ℤ → Type 0) → (State → Type 0) → Outcome State → Type 0
Ends S U (End s) = U s
Ends S U (Fault k s) = S s.slow

module _ (P : Action → State → Type 0) (S : List ℤ → Type 0) where
  -- from each state of T, P holds along the list, and it ends in a state of U, or at a fault with a slow memory of S
  pub record Keeps (T U : State → Type 0) (xs : List Action) : Type 0 where
    pub along : (s : State) → T s → Along P xs s
    pub ends : (s : State) → T s → Ends S U (folded direct_step xs s)

  pub keeps_nil : (T U : State → Type 0) → ((s : State) → T s → U s) → Keeps T U []
  unfolding folded
  keeps_nil T U f = record { along = λ s h. tt; ends = λ s h. f s h }

  ends_then : (M U : State → Type 0) (xs : List Action) (o : Outcome State) → Ends S M o → ((s : State) → M s → Ends S U (folded direct_step xs s)) → Ends S U (then_do o (folded direct_step xs))
  ends_then M U xs (End s) h f = f s h
  ends_then M U xs (Fault k s) h f = h

  ends_at : (M : State → Type 0) (o : Outcome State) (t : State) → Ends S M o → o ≡ End t → M t
  ends_at M o t h e = subst (Ends S M) e h

  -- one action, and those behind it
  pub keeps_cons : (T M U : State → Type 0) (a : Action) (xs : List Action) → ((s : State) → T s → P a s × Ends S M (direct_step a s)) → Keeps M U xs → Keeps T U (a ∷ xs)
  keeps_cons T M U a xs f more = record {
    along = λ s h. ((f s h).0, λ t e. more.along t (ends_at M (direct_step a s) t (f s h).1 e));
    ends = λ s h. subst (Ends S U) (sym (folded-cons direct_step a xs s)) (ends_then M U xs (direct_step a s) (f s h).1 more.ends);
  }

  along_append : (xs ys : List Action) (s : State) → Along P xs s → ((t : State) → folded direct_step xs s ≡ End t → Along P ys t) → Along P (xs ++ ys) s
  along_append [] ys s p f = f s (folded-nil direct_step s)
  along_append (a ∷ xs) ys s p f = (p.0, λ t e. along_append xs ys t (p.1 t e) (λ u g. f u (folded-cons direct_step a xs s ∙ ap (λ o. then_do o (folded direct_step xs)) e ∙ g)))

  -- one list, and one behind it
  pub keeps_append : (T M U : State → Type 0) (xs ys : List Action) → Keeps T M xs → Keeps M U ys → Keeps T U (xs ++ ys)
  keeps_append T M U xs ys k more = record {
    along = λ s h. along_append xs ys s (k.along s h) (λ t e. more.along t (ends_at M (folded direct_step xs s) t (k.ends s h) e));
    ends = λ s h. subst (Ends S U) (sym (folded-append direct_step xs ys s)) (ends_then M U ys (folded direct_step xs s) (k.ends s h) more.ends);
  }

  -- the lists of the turns of a loop, one after the other
  pub keeps_turns : (T : State → Type 0) (low high : ℤ) (f : ℤ → List Action) (ts : List ℤ) → Every (Between low high) ts → ((t : ℤ) → low ≤ℤ t → t <ℤ high → Keeps T T (f t)) → Keeps T T (flat_map f ts)
  keeps_turns T low high f [] b k = keeps_nil T T (λ s h. h)
  keeps_turns T low high f (t ∷ ts) b k = keeps_append T T T (f t) (flat_map f ts) (k t b.0.0 b.0.1) (keeps_turns T low high f ts b.1 k)

  -- one list or the other
  pub keeps_either : (T U : State → Type 0) (b : Bool) (xs ys : List Action) → Keeps T U xs → Keeps T U ys → Keeps T U (if b then xs else ys)
  keeps_either T U true xs ys k l = k
  keeps_either T U false xs ys k l = l

  -- from less, to more
  pub keeps_along : (T T' U U' : State → Type 0) (xs : List Action) → ((s : State) → T' s → T s) → ((s : State) → U s → U' s) → Keeps T U xs → Keeps T' U' xs
  keeps_along T T' U U' xs f g k = record { along = λ s h. k.along s (f s h); ends = λ s h. over (folded direct_step xs s) (k.ends s (f s h)) }
    where
      over : (o : Outcome State) → Ends S U o → Ends S U' o
      over (End s) h = g s h
      over (Fault k s) h = h

-- what follows of P holds along as well
pub along_map : (P Q : Action → State → Type 0) → ((a : Action) (s : State) → P a s → Q a s) → (xs : List Action) (s : State) → Along P xs s → Along Q xs s
along_map P Q f [] s h = tt
along_map P Q f (a ∷ xs) s h = (f a s h.0, λ t e. along_map P Q f xs t (h.1 t e))
