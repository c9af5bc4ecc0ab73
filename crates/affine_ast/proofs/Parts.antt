-- What holds of each of a list, and what follows from it.
use Rattle.std.proofs.Common.{◌≡◌, Bool, true, List, [], ◌∷◌}
use Rattle.std.proofs.lemmas.Bool.{and_parts}
use Rattle.affine_ast.specs.Parts.{every, Every}

module _ {A : Type 0} (P Q : A → Type 0) (so : (a : A) → P a → Q a) where
  pub Every-weaker : (xs : List A) → Every P xs → Every Q xs
  Every-weaker [] h = tt
  Every-weaker (a ∷ []) h = so a h
  Every-weaker (a ∷ b ∷ more) h = (so a h.0, Every-weaker (b ∷ more) h.1)

module _ {A : Type 0} (test : A → Bool) where
  pub every-parts : (a b : A) (more : List A) → every test (a ∷ b ∷ more) ≡ true → (test a ≡ true) × (every test (b ∷ more) ≡ true)
  every-parts a b more h = and_parts (test a) (every test (b ∷ more)) h

  -- what the test says of one, of each that passes
  pub Every-passed : (P : A → Type 0) → ((a : A) → test a ≡ true → P a) → (xs : List A) → every test xs ≡ true → Every P xs
  Every-passed P so [] h = tt
  Every-passed P so (a ∷ []) h = so a h
  Every-passed P so (a ∷ b ∷ more) h = let two = every-parts a b more h in (so a two.0, Every-passed P so (b ∷ more) two.1)

module _ {A : Type 0} (P Q R : A → Type 0) (so : (a : A) → P a → Q a → R a) where
  pub Every-both : (xs : List A) → Every P xs → Every Q xs → Every R xs
  Every-both [] p q = tt
  Every-both (a ∷ []) p q = so a p q
  Every-both (a ∷ b ∷ more) p q = (so a p.0 q.0, Every-both (b ∷ more) p.1 q.1)
