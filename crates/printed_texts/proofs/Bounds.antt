-- The bounds and steps of loops are spelled again.
use Rattle.std.proofs.Common.{◌≡◌, ℕ, ◌≤◌, nat_lt, ℤ, pos, Bool, true, false, if◌then◌else◌, List, [], ◌++◌, length, codes, bytes_eq, int_eq, refl, sym, ap, subst, append_assoc, inl, inr, arith}
use Rattle.std.proofs.lemmas.Bool.Decides.{Decides-int_eq}
use Rattle.std.specs.Fmt.{signed_decimal}
use Rattle.readers.specs.Languages.{Nothing, One, Optional}
use Rattle.affine_ast.specs.declared.name.Name.{Name}
use Rattle.affine_ast.specs.declared.types.Access.{Access}
use Rattle.affine_ast.specs.declared.types.Bound.{Bound}
use Rattle.affine_ast.specs.declared.types.Bound.TheVariants as bound
use Rattle.affine_ast.specs.Spelling.{bound_text, pick_text, bounds_text, step_text, use_text}
use Rattle.affine_grammar.specs.declared.words.Turns.{Turns}
use Rattle.affine_grammar.specs.Token.{Tok, integer}
use Rattle.affine_grammar.specs.GrammarFile.{BoundOf, Step, TurnsOf}
use Rattle.printed_texts.specs.Nesting.{BoundNests, UseNests}
use Rattle.printed_texts.proofs.Pieces.{ends, Prints, seq, prints_as, in_left, in_right, giving, nothing, loosen, blank_before, blank_behind}
use Rattle.printed_texts.proofs.Marks.{is_keyword, keyword}
use Rattle.printed_texts.proofs.Given.{IsWritten, value_prints, integer_given, IsPositive}
use Rattle.printed_texts.proofs.Uses.{ToldUse}
use Rattle.printed_texts.proofs.Types.{InRange, signed_again, integer_again}

-- ---- bounds

-- a bound of a given text
pub record ToldBound (w : List ℕ) (b : Bound) (total behind : ℕ) : Type 0 where
  pub small : total ≤ 1048576 → behind ≤ 1048576
  pub again : total ≤ 1048576 → BoundNests b → Prints true (bound_text (w ++ codes " ") b) (BoundOf w [] total) (b, behind)

module _ (w : List ℕ) (is_word : is_keyword w ≡ true) (same : bytes_eq w w ≡ true) where
  pub int_bound : (total : ℕ) (z : ℤ) → InRange z → ToldBound w (bound.Int z) total total
  unfolding bound_text
  int_bound total z r = record { small = λ h. h; again = λ h n. in_left (giving (λ z. let p : Bound × ℕ = (bound.Int z, total) in p) (signed_again z r)) }

  pub value_bound : (total : ℕ) (v : Name) → IsWritten v → ToldBound w (bound.Value v) total total
  unfolding bound_text
  value_bound total v h = record { small = λ h. h; again = λ i n. in_right (in_left (giving (λ v. let p : Bound × ℕ = (bound.Value v, total) in p) (value_prints v h))) }

  pub map_bound : (total : ℕ) (at : Access) (behind : ℕ) → ToldUse at total behind → ToldBound w (bound.Map at) total behind
  unfolding bound_text pick_text
  map_bound total at behind t = record { small = t.small; again = λ h n. by_case (nat_lt 1 (length at.map.results)) refl h n }
    where
      put : Access × ℕ → Bound × ℕ
      put p = (bound.Map p.0, p.1)

      by_case : (v : Bool) → nat_lt 1 (length at.map.results) ≡ v → total ≤ 1048576 → UseNests at → Prints true ((if nat_lt 1 (length at.map.results) then w ++ codes " " else []) ++ use_text at) (BoundOf w [] total) (bound.Map at, behind)
      by_case true e h n =
          let p : Prints false ((w ++ codes " ") ++ use_text at) (BoundOf w [] total) (bound.Map at, behind) = in_right (in_right (in_left (seq (blank_behind (keyword w is_word same)) tt (giving (λ (p : Access × ℕ). let q : Bound × ℕ = (bound.Map p.0, p.1) in q) (t.again true (inl refl) (t.small h) n))))) in
          prints_as (loosen p) (ap (λ b. (if b then w ++ codes " " else []) ++ use_text at) (sym e))
      by_case false e h n =
          let p : Prints false (use_text at) (BoundOf w [] total) (bound.Map at, behind) = in_right (in_right (in_right (giving (λ (p : Access × ℕ). let q : Bound × ℕ = (bound.Map p.0, p.1) in q) (t.again false (inr e) (t.small h) n)))) in
          prints_as (loosen p) (ap (λ b. (if b then w ++ codes " " else []) ++ use_text at) (sym e))

-- ---- steps

pub step_told : (z : ℤ) (f : List Tok) → Optional Step (pos 1) f z → IsPositive z
step_told z f (inl h) = integer_given h.second.token z h.second.accepted
step_told z f (inr h) = record { magnitude = 1; is = h.1; small = omega arith }

step_again : (z : ℤ) → IsPositive z → Prints true (step_text z) (Optional Step (pos 1)) z
unfolding step_text
step_again z p = by_case (int_eq z (pos 1)) refl
  where
    x : Prints true (signed_decimal z) (One integer) z
    x = subst (λ y. Prints true (signed_decimal y) (One integer) y) (sym p.is) (integer_again p.magnitude p.small)

    by_case : (v : Bool) → int_eq z (pos 1) ≡ v → Prints true (if int_eq z (pos 1) then [] else (codes " step " ++ signed_decimal z)) (Optional Step (pos 1)) z
    by_case true e = prints_as (in_right (subst (λ y. Prints true [] (Nothing y) z) ((Decides-int_eq z (pos 1)).0 e) (nothing z))) (ap (λ b. if b then [] else (codes " step " ++ signed_decimal z)) (sym e))
    by_case false e =
        let y : Prints true (codes " step " ++ signed_decimal z) (Optional Step (pos 1)) z = in_left (seq (blank_before (blank_behind (keyword (codes "step") refl refl))) tt x) in
        prints_as y (ap (λ b. if b then [] else (codes " step " ++ signed_decimal z)) (sym e))

step_joins : (z : ℤ) (r : List ℕ) → ends r ≡ true → ends (step_text z ++ r) ≡ true
unfolding step_text
step_joins z r h = by_case (int_eq z (pos 1))
  where
    by_case : (v : Bool) → ends ((if v then [] else (codes " step " ++ signed_decimal z)) ++ r) ≡ true
    by_case true = h
    by_case false = refl

-- ---- bounds and step

pub record ToldTurns (t : Turns) (total : ℕ) : Type 0 where
  pub small : total ≤ 1048576 → t.total ≤ 1048576
  pub again : total ≤ 1048576 → BoundNests t.lower → BoundNests t.upper → Prints true (bounds_text t.lower t.upper ++ step_text t.step) (TurnsOf [] total) t

pub turns_of : (total : ℕ) (p q : Bound × ℕ) (z : ℤ) → ToldBound (codes "max") p.0 total p.1 → ToldBound (codes "min") q.0 p.1 q.1 → IsPositive z → ToldTurns (record { lower = p.0; upper = q.0; step = z; total = q.1 }) total
unfolding bounds_text
turns_of total p q z a b s = record {
  small = λ h. b.small (a.small h);
  again = λ h n m.
      let x : Prints true (bound_text (codes "max ") p.0) (BoundOf (codes "max") [] total) p = a.again h n in
      let y : Prints true (bound_text (codes "min ") q.0) (BoundOf (codes "min") [] p.1) q = b.again (a.small h) m in
      let t : Turns = record { lower = p.0; upper = q.0; step = z; total = q.1 } in
      let inner = seq y (step_joins z) (giving (λ z. let t : Turns = record { lower = p.0; upper = q.0; step = z; total = q.1 } in t) (step_again z s)) in
      let w = seq (blank_before (blank_behind (keyword (codes "to") refl refl))) tt inner in
      let whole : Prints true (bound_text (codes "max ") p.0 ++ (codes " to " ++ (bound_text (codes "min ") q.0 ++ step_text z))) (TurnsOf [] total) t = seq x (λ r c. refl) w in
      prints_as whole (simp append_assoc refl);
}
