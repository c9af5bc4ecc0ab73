use Rattle.std.proofs.Common.{◌∙◌, ap, length}
use Rattle.affine_lex.specs.Scan.{place}
use Rattle.affine_lex.specs.declared.lexer.Place.{Place}
use Rattle.affine_lex.specs.declared.token.Token.{Token}
use Rattle.affine_lex.specs.declared.token.Kind.TheVariants.{End}
use Rattle.affine_lex.proofs.Places.{place_is}
use Rattle.affine_lex.proofs.scanner.text_end.Goals as goal

pub returns : goal.returns
unfolding place
returns c =
    let s = c.args.source.now in
    let at : Place → Token = λ p. record { kind = End; from = length s; to = length s; line = p.line; column = p.column } in
    ap at (c.walk-place.ensures.value ∙ place_is s)
