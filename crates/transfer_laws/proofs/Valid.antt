-- The transfers of a valid module, from every memory that fits it.
use Rattle.std.proofs.Common.{◌≡◌, ℕ, ℤ, Bool, true, false, List, [], ◌∷◌, refl, sym, ◌∙◌, arith}
use Rattle.std.specs.Prelude.{fold, Option, Some, None}
use Rattle.affine_ast.specs.declared.module.Arg.{Arg}
use Rattle.affine_ast.specs.declared.module.ArgKind.{ArgKind}
use Rattle.affine_ast.specs.declared.module.ArgKind.TheVariants.{Memref, Index}
use Rattle.affine_ast.specs.declared.name.Name.{Name}
use Rattle.affine_ast.specs.Names.{same_name, put}
use Rattle.affine_ast.proofs.Names.{put-same, put-other}
use Rattle.affine_ast.specs.Nest.{nest}
use Rattle.direct_meaning.specs.Action.{Home, SlowMemref, TagMemref}
use Rattle.direct_meaning.specs.Actions.{tags_in}
use Rattle.direct_meaning.specs.Memory.{Placed, place_kind, place_arg, empty_env, start_env, module_actions}
use Rattle.valid_laws.proofs.SafeStart.{start_around, start_stands}
use Rattle.transfer_laws.specs.Law.{ValidTransfersFit}
use Rattle.transfer_laws.proofs.Texts.{all_within}

-- an argument is no memref of tags
abbrev NoTags : (Name → Option Home) → Type 0
NoTags home = (n : Name) (first : ℕ) → home n ≡ Some (TagMemref first) → ⊥

slow_no_tags : (number start first : ℕ) → Some (SlowMemref number start) ≡ Some (TagMemref first) → ⊥
slow_no_tags number start first e = cc

none_no_tags : (first : ℕ) → None ≡ Some (TagMemref first) → ⊥
none_no_tags first e = cc

put_no_tags : (home : Name → Option Home) (r : Name) (number start : ℕ) → NoTags home → NoTags (put home r (Some (SlowMemref number start)))
put_no_tags home r number start h n first is = by (same_name r n) refl
  where
    by : (t : Bool) → same_name r n ≡ t → ⊥
    by true t = slow_no_tags number start first (sym (put-same home r (Some (SlowMemref number start)) n t) ∙ is)
    by false t = h n first (sym (put-other home r (Some (SlowMemref number start)) n t) ∙ is)

kind_no_tags : (kind : ArgKind) (name : Name) (p : Placed) → NoTags p.env.home → NoTags (place_kind kind name p).env.home
kind_no_tags (Memref ty) name p h = put_no_tags p.env.home name p.memrefs p.elements h
kind_no_tags (Index range) name p h = h

all_no_tags : (args : List Arg) (p : Placed) → NoTags p.env.home → NoTags (fold place_arg p args).env.home
all_no_tags [] p h = h
all_no_tags (arg ∷ args) p h = all_no_tags args (place_arg p arg) (kind_no_tags arg.kind arg.name p h)

kind_tags : (kind : ArgKind) (name : Name) (p : Placed) → (place_kind kind name p).env.tags ≡ p.env.tags
kind_tags (Memref ty) name p = refl
kind_tags (Index range) name p = refl

tags_kept : (args : List Arg) (p : Placed) → (fold place_arg p args).env.tags ≡ p.env.tags
tags_kept [] p = refl
tags_kept (arg ∷ args) p = tags_kept args (place_arg p arg) ∙ kind_tags arg.kind arg.name p

no_tags : (args : List Arg) (symbols : List ℤ) → NoTags (start_env args symbols).home × ((start_env args symbols).tags ≡ 0)
unfolding start_env
no_tags args symbols =
    let p : Placed = record { env = empty_env; memrefs = 0; elements = 0; symbols = symbols } in
    (all_no_tags args p (λ n first e. none_no_tags first e), tags_kept args p)

pub valid_transfers : ValidTransfersFit
unfolding module_actions
valid_transfers m valid memory fits =
    let s = start_stands m valid memory fits in
    let none = no_tags m.args memory.symbols in
    let few = none.1 in
    all_within (tags_in (nest m.body)) (nest m.body) (start_around m) s.totals (start_env m.args memory.symbols) (λ n ty first is at. absurd (none.0 n first at)) (omega (arith, few)) s.passed
