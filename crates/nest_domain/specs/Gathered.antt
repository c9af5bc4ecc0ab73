-- What code gathers along the way to a place, as what is known of it.
use Rattle.std.specs.Prelude.{◌≡◌, Result, Ok, Err}
use Rattle.affine_expr.specs.declared.linear.LinearFault.{LinearFault}
use Rattle.affine_expr.specs.declared.linear.LinearFault.TheVariants.{Wide, Memory}
use Rattle.module_work.specs.Table.{ranges_of}
use Rattle.nest_domain.specs.declared.known.KnownForms.{KnownForms}
use Rattle.nest_domain.specs.Domains.{Known}
use Rattle.nest_domain.specs.Table.{forms_of}

abbrev pub known_of : KnownForms → Known
known_of k = record {
  forms = forms_of k.forms.entries;
  ranges = ranges_of k.ranges.entries;
  outer = k.outer;
  next = k.next;
  symbols = k.symbols.items;
  loops = k.loops.items;
  conditions = k.conditions.items;
  locals = k.locals.items;
  goings = k.goings.items;
}

-- what is known is then what is wanted, or the refusal is
abbrev pub Becomes : Result Known LinearFault → KnownForms → Result (Unit {0}) LinearFault → Type 0
Becomes wanted new (Ok done) = wanted ≡ Ok (known_of new)
Becomes wanted new (Err Memory) = Unit {0}
Becomes wanted new (Err Wide) = wanted ≡ Err Wide
