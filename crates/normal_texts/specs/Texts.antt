-- Texts whose subscripts have their dimensions numbered by first appearance, as the grammar reads them.
use Rattle.std.specs.Prelude.{◌≡◌}
use Rattle.affine_ast.specs.declared.module.Module.{Module}
use Rattle.affine_ast.specs.Nest.{Plain, Nest, nest, Load, Store, Start, Wait}
use Rattle.placement_texts.specs.Mapped.{mapped}
use Rattle.placement_texts.specs.Normal.{normal}

-- the subscripts of an access, of the ends of a transfer and of its tags
abbrev pub normal_plain : Plain → Plain
normal_plain (Load r m at ty) = Load r m (normal at) ty
normal_plain (Store x m at ty) = Store x m (normal at) ty
normal_plain (Start x x_at y y_at t t_at n stride types) = Start x (normal x_at) y (normal y_at) t (normal t_at) n stride types
normal_plain (Wait t at n ty) = Wait t (normal at) n ty
normal_plain p = p

abbrev pub normal_text : Nest → Nest
normal_text = mapped normal_plain

-- the second module is the first with such subscripts
pub record IsNormal (m q : Module) : Type 0 where
  pub arguments : q.args ≡ m.args
  pub body : nest q.body ≡ normal_text (nest m.body)
