-- Parts of a text's pieces, one after the other: for the half of the proof that goes along the text.
use Rattle.std.proofs.Common.{◌≡◌, ℤ, List, [], ◌∷◌, ◌++◌, refl, sym, ap, ◌∙◌, subst, Bool}
use Rattle.std.specs.Prelude.{flat_map}
use Rattle.std.proofs.lemmas.List.{append_assoc}
use Rattle.affine_ast.specs.declared.name.Name.{Name}
use Rattle.bus_model.specs.declared.transfer.Transfer.{Transfer}
use Rattle.direct_meaning.specs.Action.{Action, Known}
use Rattle.direct_meaning.proofs.WorkLaws.{Every}
use Rattle.box_run_laws.specs.Layouts.{Numbering, nowhere, moved}
use Rattle.box_run_laws.specs.Parts.{Part, Stays, Made, Runs, original, staged, left_by, left_behind, Meets}

pub left_append : (xs ys : List Action) (ts : List Transfer) → left_behind (xs ++ ys) ts ≡ left_behind ys (left_behind xs ts)
left_append [] ys ts = refl
left_append (x ∷ xs) ys ts = left_append xs ys (left_by x ts)

module _ (X : Type 0) (own : Name → Bool) (nu : Numbering) (old new : X → List Action) (MeetsRun : X → List Transfer → Type 0) where
  pub original_append : (ps qs : List (Part X)) → original old (ps ++ qs) ≡ original old ps ++ original old qs
  original_append [] qs = refl
  original_append (Stays a ∷ ps) qs = ap (λ l. a ∷ l) (original_append ps qs)
  original_append (Made ∷ ps) qs = original_append ps qs
  original_append (Runs x ∷ ps) qs = ap (λ l. old x ++ l) (original_append ps qs) ∙ sym (append_assoc (old x) (original old ps) (original old qs))

  pub staged_append : (ps qs : List (Part X)) → staged nu new (ps ++ qs) ≡ staged nu new ps ++ staged nu new qs
  staged_append [] qs = refl
  staged_append (Stays a ∷ ps) qs = ap (λ l. moved nu nowhere a ∷ l) (staged_append ps qs)
  staged_append (Made ∷ ps) qs = ap (λ l. Known ∷ l) (staged_append ps qs)
  staged_append (Runs x ∷ ps) qs = ap (λ l. new x ++ l) (staged_append ps qs) ∙ sym (append_assoc (new x) (staged nu new ps) (staged nu new qs))

  pub meets_append : (ps qs : List (Part X)) (ts : List Transfer) → Meets own nu old MeetsRun ps ts → Meets own nu old MeetsRun qs (left_behind (original old ps) ts) → Meets own nu old MeetsRun (ps ++ qs) ts
  meets_append [] qs ts h k = k
  meets_append (Stays a ∷ ps) qs ts h k = (h.0, meets_append ps qs (left_by a ts) h.1 k)
  meets_append (Made ∷ ps) qs ts h k = meets_append ps qs ts h k
  meets_append (Runs x ∷ ps) qs ts h k =
      (h.0, meets_append ps qs (left_behind (old x) ts) h.1 (subst (Meets own nu old MeetsRun qs) (left_append (old x) (original old ps) ts) k))

  -- parts that meet what they have to where nothing is outstanding, and leave nothing outstanding
  pub record Balanced (ps : List (Part X)) : Type 0 where
    pub meets : Meets own nu old MeetsRun ps []
    pub left : left_behind (original old ps) [] ≡ []

  pub balanced_append : (ps qs : List (Part X)) → Balanced ps → Balanced qs → Balanced (ps ++ qs)
  balanced_append ps qs h k = record {
    meets = meets_append ps qs [] h.meets (subst (Meets own nu old MeetsRun qs) (sym h.left) k.meets);
    left = ap (λ l. left_behind l []) (original_append ps qs) ∙ left_append (original old ps) (original old qs) [] ∙ ap (left_behind (original old qs)) h.left ∙ k.left;
  }

  -- all turns of a loop
  pub balanced_turns : (f : ℤ → List (Part X)) (turns : List ℤ) → Every (λ t. Balanced (f t)) turns → Balanced (flat_map f turns)
  balanced_turns f [] h = record { meets = tt; left = refl }
  balanced_turns f (t ∷ turns) h = balanced_append (f t) (flat_map f turns) h.0 (balanced_turns f turns h.1)

  pub original_turns : (f : ℤ → List (Part X)) (turns : List ℤ) → original old (flat_map f turns) ≡ flat_map (λ t. original old (f t)) turns
  original_turns f [] = refl
  original_turns f (t ∷ turns) = original_append (f t) (flat_map f turns) ∙ ap (λ l. original old (f t) ++ l) (original_turns f turns)

  pub staged_turns : (f : ℤ → List (Part X)) (turns : List ℤ) → staged nu new (flat_map f turns) ≡ flat_map (λ t. staged nu new (f t)) turns
  staged_turns f [] = refl
  staged_turns f (t ∷ turns) = staged_append (f t) (flat_map f turns) ∙ ap (λ l. staged nu new (f t) ++ l) (staged_turns f turns)
