-- The arguments of a module with numbered names: what the rules tell of them, what stands round the statements behind them, and
-- what their names stand for.
use Rattle.std.proofs.Common.{◌≡◌, ◌≢◌, ℕ, suc, ◌+◌, ◌≤◌, ℤ, List, [], ◌∷◌, length, refl, sym, ap, ◌∙◌, subst, arith, Bool, true, false, map}
use Rattle.std.specs.Prelude.{◌&&◌, Option, Some, None, nat_le, fold, All, drop, slice_index_or, pos}
use Rattle.std.proofs.lemmas.Bool.{and_parts, leb-true}
use Rattle.affine_ast.specs.declared.image.Cells.{Cells}
use Rattle.affine_ast.specs.declared.image.Image.{Image}
use Rattle.affine_ast.specs.declared.module.Arg.{Arg}
use Rattle.affine_ast.specs.declared.module.ArgKind.{ArgKind}
use Rattle.affine_ast.specs.declared.module.ArgKind.TheVariants as kind
use Rattle.affine_ast.specs.declared.name.Name.{Name}
use Rattle.affine_ast.specs.Rules.{is_in, is_new, arguments_within}
use Rattle.affine_ast.specs.Scope.{Totals, Around, with_name, with_totals}
use Rattle.affine_ast.specs.Validity.{Told, Passed, Broken, broken_of, rule, judged, with_argument, binding_of_kind, range_ordered, range_small, argument_is_slow, argument_shape, rule_of_argument, behind_argument, told_arguments}
use Rattle.valid_laws.proofs.Passing.{rule_held, judged_passed, passed_of}
use Rattle.placement_texts.specs.Own.{OwnNames}
use Rattle.placement_texts.specs.Renamed.{KeepsApart, RenamesEnv, RenamesScope}
use Rattle.rename_laws.proofs.Rules.{new_same}
use Rattle.rename_laws.proofs.Values.{put_named}
use Rattle.direct_meaning.specs.Action.{SlowMemref}
use Rattle.direct_meaning.specs.Static.{product}
use Rattle.direct_meaning.specs.Memory.{FitsArg, FitsArgs, Fits, Placed, place_kind, place_arg, start_env}
use Rattle.numbered_names.specs.Numbers.{numbered_arg}
use Rattle.numbered_names.proofs.Owned.{OwnScope, put_own}

abbrev pub names_of : List Arg → List Name
names_of args = map (λ (arg : Arg). arg.name) args

-- ---- what stands behind the arguments of a module whose rules hold
module _ (own : Name → Bool) where
  -- the statements are told of behind them, in a scope of their names; so many they are
  pub record Behind (body : Around → Told) (args : List Arg) (a : Around) (t : Totals) : Type 0 where
    pub around : Around
    pub told : body around ≡ Passed t
    pub scope : OwnScope own around.scope
    pub statements : around.totals.statements ≡ a.totals.statements
    pub count : (a.totals.memrefs + a.totals.indexes) + length args ≤ around.totals.memrefs + around.totals.indexes
    pub few : a.totals.memrefs + a.totals.indexes ≤ 80 → around.totals.memrefs + around.totals.indexes ≤ 80

  one_more : (k : ArgKind) (t : Totals) → ((with_argument k t).memrefs + (with_argument k t).indexes ≡ suc (t.memrefs + t.indexes)) × ((with_argument k t).statements ≡ t.statements)
  one_more (kind.Memref ty) t = (omega arith, refl)
  one_more (kind.Index range) t = (omega arith, refl)

  within_few : (t : Totals) → arguments_within t ≡ true → t.memrefs + t.indexes ≤ 80
  within_few t h =
      let one = and_parts (nat_le t.memrefs 64) (nat_le t.indexes 16 && nat_le t.elements 1048576) h in
      let two = and_parts (nat_le t.indexes 16) (nat_le t.elements 1048576) one.1 in
      let m = leb-true t.memrefs 64 one.0 in
      let n = leb-true t.indexes 16 two.0 in
      omega (arith, m, n)

  argument_few : (a : Around) (n : Name) (k : ArgKind) → rule_of_argument a n k ≡ None → arguments_within (with_argument k a.totals) ≡ true
  unfolding rule_of_argument
  argument_few a n k h =
      let r2 = rule_held 2 (is_new a.scope n) _ h in
      let r3 = rule_held 3 (range_ordered k) _ r2.1 in
      let r9 = rule_held 9 (range_small k) _ r3.1 in
      let r10 = rule_held 10 (argument_is_slow k) _ r9.1 in
      let r11 = rule_held 11 (argument_shape k && arguments_within (with_argument k a.totals)) None r10.1 in
      (and_parts (argument_shape k) (arguments_within (with_argument k a.totals)) r11.0).1

  pub behind_arguments : (args : List Arg) (body : Around → Told) (a : Around) (t : Totals) → OwnNames own (names_of args) → OwnScope own a.scope
      → told_arguments args body a ≡ Passed t → Behind body args a t
  unfolding told_arguments
  behind_arguments [] body a t o h e = record { around = a; told = e; scope = h; statements = refl; count = omega arith; few = λ k. k }
  behind_arguments (arg ∷ args) body a t o h e =
      let k = judged_passed arg.line (rule_of_argument a arg.name arg.kind) _ t e in
      let b = behind_arguments args body (behind_argument arg.name arg.kind a) t o.1 (put_own own a.scope arg.name (binding_of_kind arg.kind) o.0 h) k.1 in
      let more = one_more arg.kind a.totals in
      let few = within_few (with_argument arg.kind a.totals) (argument_few a arg.name arg.kind k.0) in
      let count = b.count in
      let plus = more.0 in
      record {
        around = b.around;
        told = b.told;
        scope = b.scope;
        statements = b.statements ∙ more.1;
        count = omega (arith, count, plus);
        few = λ any. b.few few;
      }

-- ---- with new names
module _ (f : Name → Name) (own : Name → Bool) (apart : KeepsApart f own) where
  rule_same : (a b : Around) → RenamesScope f own a b → (n : Name) (k : ArgKind) → own n ≡ true → rule_of_argument b (f n) k ≡ rule_of_argument a n k
  unfolding rule_of_argument
  rule_same a b r n k o = λ i.
      rule 2 (new_same f own a.scope b.scope r.scope n o i) (
      rule 3 (range_ordered k) (
      rule 9 (range_small k) (
      rule 10 (argument_is_slow k) (
      rule 11 (argument_shape k && arguments_within (with_argument k (r.totals i))) None))))

  behind_same : (a b : Around) → RenamesScope f own a b → (n : Name) (k : ArgKind) → own n ≡ true → RenamesScope f own (behind_argument n k a) (behind_argument (f n) k b)
  behind_same a b r n k o = record {
    scope = put_named f own a.scope b.scope n (Some (binding_of_kind k)) (Some (binding_of_kind k)) apart o refl r.scope;
    released = r.released;
    loops = r.loops;
    ifs = r.ifs;
    totals = ap (with_argument k) r.totals;
  }

  pub arguments_same : (args : List Arg) (body body' : Around → Told) (a b : Around) → OwnNames own (names_of args) → RenamesScope f own a b
      → ((c d : Around) → RenamesScope f own c d → body' d ≡ body c)
      → told_arguments (map (numbered_arg f) args) body' b ≡ told_arguments args body a
  unfolding told_arguments
  arguments_same [] body body' a b o r h = h a b r
  arguments_same (arg ∷ args) body body' a b o r h = λ i.
      judged arg.line (rule_same a b r arg.name arg.kind o.0 i)
      (arguments_same args body body' (behind_argument arg.name arg.kind a) (behind_argument (f arg.name) arg.kind b) o.1 (behind_same a b r arg.name arg.kind o.0) h i)

  -- what the names stand for, and how far the memory is used up
  record SamePlaced (p q : Placed) : Type 0 where
    env : RenamesEnv f own p.env q.env
    memrefs : q.memrefs ≡ p.memrefs
    elements : q.elements ≡ p.elements
    symbols : q.symbols ≡ p.symbols

  kind_same : (k : ArgKind) (n : Name) (p q : Placed) → own n ≡ true → SamePlaced p q → SamePlaced (place_kind k n p) (place_kind k (f n) q)
  kind_same (kind.Memref ty) n p q o h = record {
    env = record {
      known = h.env.known;
      home = put_named f own p.env.home q.env.home n _ _ apart o (λ i. Some (SlowMemref (sym h.memrefs i) (sym h.elements i))) h.env.home;
      fasts = h.env.fasts;
      tags = h.env.tags;
    };
    memrefs = ap suc h.memrefs;
    elements = ap (λ e. e + product ty.sizes) h.elements;
    symbols = h.symbols;
  }
  kind_same (kind.Index range) n p q o h = record {
    env = record {
      known = put_named f own p.env.known q.env.known n _ _ apart o (λ i. Some (slice_index_or (sym h.symbols i) 0 (pos 0))) h.env.known;
      home = h.env.home;
      fasts = h.env.fasts;
      tags = h.env.tags;
    };
    memrefs = h.memrefs;
    elements = h.elements;
    symbols = ap (drop 1) h.symbols;
  }

  placed_same : (args : List Arg) (p q : Placed) → OwnNames own (names_of args) → SamePlaced p q → SamePlaced (fold place_arg p args) (fold place_arg q (map (numbered_arg f) args))
  placed_same [] p q o h = h
  placed_same (arg ∷ args) p q o h = placed_same args (place_arg p arg) (place_arg q (numbered_arg f arg)) o.1 (kind_same arg.kind arg.name p q o.0 h)

  pub start_same : (args : List Arg) (symbols : List ℤ) → OwnNames own (names_of args) → RenamesEnv f own (start_env args symbols) (start_env (map (numbered_arg f) args) symbols)
  unfolding start_env
  start_same args symbols o = (placed_same args _ _ o (record {
    env = record { known = λ n k. refl; home = λ n k. refl; fasts = refl; tags = refl };
    memrefs = refl;
    elements = refl;
    symbols = refl;
  })).env

module _ (f : Name → Name) where
  -- a memory that fits the arguments fits them under new names
  pub fits_same : (args : List Arg) (memrefs : List Cells) (symbols : List ℤ) → FitsArgs args memrefs symbols → FitsArgs (map (numbered_arg f) args) memrefs symbols
  fits_same [] memrefs symbols h = h
  fits_same (arg ∷ args) memrefs symbols h = one arg.kind memrefs symbols (fits_same args) h
    where
      one : (k : ArgKind) (memrefs : List Cells) (symbols : List ℤ)
          → ((memrefs : List Cells) (symbols : List ℤ) → FitsArgs args memrefs symbols → FitsArgs (map (numbered_arg f) args) memrefs symbols)
          → FitsArg k (FitsArgs args) memrefs symbols → FitsArg k (FitsArgs (map (numbered_arg f) args)) memrefs symbols
      one (kind.Memref ty) [] symbols more h = h
      one (kind.Memref ty) (cells ∷ memrefs) symbols more h = (h.0, h.1, more memrefs symbols h.2)
      one (kind.Index range) memrefs [] more h = h
      one (kind.Index range) memrefs (z ∷ symbols) more h = (h.0, more memrefs symbols h.1)
