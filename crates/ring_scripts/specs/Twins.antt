-- The epilogue's body, whose made names are twins of the main loop's, does what the main loop's body does.
use Rattle.std.specs.Prelude.{◌≡◌, Bool, false, List, [], ◌∷◌}
use Rattle.affine_ast.specs.declared.name.Name.{Name}
use Rattle.affine_ast.specs.declared.types.Scalar.TheVariants.{Int, Index}
use Rattle.affine_ast.specs.Nest.{Plain, Nest, Nothing, Loop, Branch, Does, Load, Store, RawLoad, RawStore, Constant, Binary, Cast}
use Rattle.direct_meaning.specs.Actions.{actions}
use Rattle.direct_meaning.specs.Static.{Env}
use Rattle.numbered_names.specs.Numbers.{defined, made_of}
use Rattle.placement_texts.specs.Own.{OwnNest}
use Rattle.placement_texts.specs.Renamed.{KeepsApart, RenamesEnv}
use Rattle.ring_plans.specs.Rings.{twin_of_some, twin_text}

abbrev pub AreOfSource : List Name → Type 0
AreOfSource [] = Unit {0}
AreOfSource (n ∷ ns) = (n.made ≡ false) × AreOfSource ns

-- numbers that a statement loads, stores or computes have names of the source, as in each text but that of a template by copy loops
abbrev pub HasSourceData : Plain → Type 0
HasSourceData (Load r m at ty) = r.made ≡ false
HasSourceData (Store x m at ty) = x.made ≡ false
HasSourceData (RawLoad r m at ty) = (r.made ≡ false) × AreOfSource at
HasSourceData (RawStore x m at ty) = (x.made ≡ false) × AreOfSource at
HasSourceData (Constant r z (Int e)) = r.made ≡ false
HasSourceData (Constant r z Index) = Unit {0}
HasSourceData (Binary r op a b ty) = (r.made ≡ false) × (a.made ≡ false) × (b.made ≡ false)
HasSourceData (Cast r kind x from to) = (r.made ≡ false) × (x.made ≡ false)
HasSourceData q = Unit {0}

abbrev pub AllSourceData : Nest → Type 0
AllSourceData Nothing = Unit {0}
AllSourceData (Loop line v l u s body rest) = AllSourceData body × AllSourceData rest
AllSourceData (Branch line set names first has other rest) = AllSourceData first × AllSourceData other × AllSourceData rest
AllSourceData (Does line q rest) = HasSourceData q × AllSourceData rest

-- under names that stand for what the text's do, its twin has the text's actions
abbrev pub TwinsDoTheSame : Type 0
TwinsDoTheSame = (own : Name → Bool) (n : Nest) (e g : Env) → KeepsApart (twin_of_some (made_of (defined n))) own → OwnNest own n → RenamesEnv (twin_of_some (made_of (defined n))) own e g → AllSourceData n
    → actions (twin_text n) g ≡ actions n e
