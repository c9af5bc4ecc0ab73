-- The image that a text spells, and what the reading comes to.
use Rattle.std.proofs.Common.{◌≡◌, ℕ, List, [], ◌∷◌, ◌++◌, ◌&&◌, length, map, true, Option, Some, None, ℤ, refl, sym, ◌∙◌, ap, subst, arith}
use Rattle.std.specs.Prelude.{All, codes, nat_eq}
use Rattle.std.specs.Str.{bytes_eq}
use Rattle.std.proofs.lemmas.Bool.Decides.{nat_tests}
use Rattle.std.proofs.lemmas.List.{append_assoc, append-nil, length-map}
use Rattle.std.proofs.lemmas.List.Elements.{All-nil, All-cons, All-head, All-tail, All-weaker}
use Rattle.std.proofs.lemmas.Slice.Eq.{bytes_eq-Decides}
use Rattle.affine_ast.specs.declared.image.Cells.{Cells}
use Rattle.affine_ast.specs.declared.image.Image.{Image}
use Rattle.affine_ast.specs.declared.module.Arg.{Arg}
use Rattle.affine_ast.specs.declared.module.ArgKind.{ArgKind}
use Rattle.affine_ast.specs.declared.module.ArgKind.TheVariants as kind
use Rattle.affine_ast.specs.declared.module.Module.{Module}
use Rattle.affine_ast.specs.Intervals.{range_or}
use Rattle.affine_ast.specs.Sizes.{element_bits}
use Rattle.affine_expr.specs.declared.map.Interval.{Interval}
use Rattle.int_ops.specs.Wrapped.{InRange}
use Rattle.direct_meaning.specs.Memory.{FitsArg, FitsArgs}
use Rattle.num_row.specs.Decimals.{decimal_value}
use Rattle.mem_image.specs.Forms.{count_of, range_of_kind, is_between, is_name, are_numbers, name_in, numbers_in, values_in, has_form, are_between, rule_of_line}
use Rattle.mem_image.specs.Growing.{memrefs_with, symbols_with}
use Rattle.mem_image.specs.Images.{Row, row, own_numbers, memrefs_behind, symbols_behind, rows, Gives, GiveAll, Spells}
use Rattle.mem_image.specs.Lines.{Written, written}
use Rattle.mem_image.proofs.Numbers.{and_left, and_right, true_no, first_between, rest_between, first_inside, none_between}
use Rattle.mem_image.proofs.Ranges.{in_range, range_in, in_interval, interval_in}
use Rattle.mem_image.proofs.Rules.{Passes, passes, breaks_none, left_over}
use Rattle.mem_image.proofs.Told.{Broken, Read, judged, told}

-- ---- The words of a line in form

pub record Shape (line : List (List ℕ)) : Type 0 where
  pub spelled : line ≡ name_in line ∷ codes "=" ∷ numbers_in line
  pub named : is_name (name_in line) ≡ true
  pub decimal : are_numbers (numbers_in line) ≡ true

shape : (line : List (List ℕ)) → has_form line ≡ true → Shape line
unfolding has_form
shape [] h = absurd (true_no (sym h))
shape (name ∷ []) h = absurd (true_no (sym h))
shape (name ∷ sign ∷ numbers) h =
    let rest = and_right (is_name name) (bytes_eq sign (codes "=") && are_numbers numbers) h in
    record {
      spelled = ap (λ s. name ∷ s ∷ numbers) ((bytes_eq-Decides sign (codes "=")).0 (and_left (bytes_eq sign (codes "=")) (are_numbers numbers) rest));
      named = and_left (is_name name) (bytes_eq sign (codes "=") && are_numbers numbers) h;
      decimal = and_right (bytes_eq sign (codes "=")) (are_numbers numbers) rest;
    }

gives : (arg : Arg) (line : List (List ℕ)) (values : List ℤ) → Passes arg line → values ≡ values_in line → Gives line (row arg.name.text values)
gives arg line values p e =
    let s = shape line p.form in
    let n : name_in line ≡ arg.name.text = (bytes_eq-Decides (name_in line) arg.name.text).0 p.named in
    record {
      numbers = numbers_in line;
      spelled = s.spelled ∙ ap (λ name. name ∷ codes "=" ∷ numbers_in line) n;
      named = ap is_name (sym n) ∙ s.named;
      decimal = s.decimal;
      same = sym e;
    }

-- ---- Values between

abbrev pub AllBetween : Interval → List ℤ → Type 0
AllBetween range values = All (λ z. is_between range z ≡ true) values

all_between : (range : Interval) (texts : List (List ℕ)) → are_between range texts ≡ true → AllBetween range (map decimal_value texts)
all_between range [] h = All-nil (λ z. is_between range z ≡ true)
all_between range (text ∷ texts) h = All-cons (λ z. is_between range z ≡ true) (decimal_value text) (map decimal_value texts) (first_between range (text ∷ texts) texts text refl h) (all_between range texts (rest_between range (text ∷ texts) texts text refl h))

between_all : (range : Interval) (texts : List (List ℕ)) → AllBetween range (map decimal_value texts) → are_between range texts ≡ true
between_all range [] h = none_between range
between_all range (text ∷ texts) h = first_inside range (text ∷ texts) texts text refl (All-head (λ z. is_between range z ≡ true) (decimal_value text) (map decimal_value texts) h) ∙ between_all range texts (All-tail (λ z. is_between range z ≡ true) (decimal_value text) (map decimal_value texts) h)

-- ---- From the reading to the image

pub record Placed (k : ArgKind) (F : List Cells → List ℤ → Type 0) (values : List ℤ) (ms1 : List Cells) (ss1 : List ℤ) : Type 0 where
  pub memrefs : List Cells
  pub symbols : List ℤ
  pub fits : FitsArg k F memrefs symbols
  pub own : own_numbers k memrefs symbols ≡ values
  pub left : memrefs_behind k memrefs ≡ ms1
  pub right : symbols_behind k symbols ≡ ss1
  pub with_memrefs : (ms : List Cells) → memrefs_with k values ms ++ ms1 ≡ ms ++ memrefs
  pub with_symbols : (ss : List ℤ) → symbols_with k values ss ++ ss1 ≡ ss ++ symbols

placed : (k : ArgKind) (F : List Cells → List ℤ → Type 0) (values : List ℤ) (ms1 : List Cells) (ss1 : List ℤ) → length values ≡ count_of k → AllBetween (range_of_kind k) values → F ms1 ss1 → Placed k F values ms1 ss1
placed (kind.Memref ty) F values ms1 ss1 l b f = record {
  memrefs = record { values = values } ∷ ms1;
  symbols = ss1;
  fits = (l, All-weaker (λ z. is_between (range_of_kind (kind.Memref ty)) z ≡ true) (InRange (element_bits ty.element)) (in_range (element_bits ty.element)) values b, f);
  own = refl;
  left = refl;
  right = refl;
  with_memrefs = λ ms. append_assoc ms (record { values = values } ∷ []) ms1;
  with_symbols = λ ss. refl;
}
placed (kind.Index range) F [] ms1 ss1 l b f = absurd (omega arith)
placed (kind.Index range) F (z ∷ y ∷ more) ms1 ss1 l b f = absurd (omega arith)
placed (kind.Index range) F (z ∷ []) ms1 ss1 l b f = record {
  memrefs = ms1;
  symbols = z ∷ ss1;
  fits = (in_interval (range_or range) z (All-head (λ z. is_between (range_or range) z ≡ true) z [] b), f);
  own = refl;
  left = refl;
  right = refl;
  with_memrefs = λ ms. refl;
  with_symbols = λ ss. append_assoc ss (z ∷ []) ss1;
}

-- what the reading added to what was there
pub record Added (args : List Arg) (lines : List Written) (ms : List Cells) (ss : List ℤ) (ms2 : List Cells) (ss2 : List ℤ) : Type 0 where
  pub memrefs : List Cells
  pub symbols : List ℤ
  pub left : ms2 ≡ ms ++ memrefs
  pub right : ss2 ≡ ss ++ symbols
  pub fits : FitsArgs args memrefs symbols
  pub given : GiveAll lines (rows args memrefs symbols)

read_cells : (m m2 : List Cells) (s s2 : List ℤ) → Read m s ≡ Read m2 s2 → m ≡ m2
read_cells m m2 s s2 h = cc

read_numbers : (m m2 : List Cells) (s s2 : List ℤ) → Read m s ≡ Read m2 s2 → s ≡ s2
read_numbers m m2 s s2 h = cc

broken_read : (m : List Cells) (s : List ℤ) (line number : ℕ) → Broken line number ≡ Read m s → ⊥
broken_read m s line number h = let x : ⊥ = cc in x

counted : (line : List (List ℕ)) (n : ℕ) → nat_eq (length (numbers_in line)) n ≡ true → length (values_in line) ≡ n
counted line n h = length-map (numbers_in line) decimal_value ∙ same (length (numbers_in line)) n h
  where
    same : (a b : ℕ) → nat_eq a b ≡ true → a ≡ b
    same a b h = grind (arith, nat_tests)

nothing_added : (ms ms2 : List Cells) (ss ss2 : List ℤ) → Read ms ss ≡ Read ms2 ss2 → Added [] [] ms ss ms2 ss2
unfolding rows
nothing_added ms ms2 ss ss2 h = record {
  memrefs = [];
  symbols = [];
  left = sym (read_cells ms ms2 ss ss2 h) ∙ sym (append-nil ms);
  right = sym (read_numbers ms ms2 ss ss2 h) ∙ sym (append-nil ss);
  fits = (refl, refl);
  given = tt;
}

row_added : (arg : Arg) (args : List Arg) (entry : Written) (more : List Written) (ms ms2 : List Cells) (ss ss2 : List ℤ) → rule_of_line (Some arg) entry.words ≡ None
    → Added args more (memrefs_with arg.kind (values_in entry.words) ms) (symbols_with arg.kind (values_in entry.words) ss) ms2 ss2 → Added (arg ∷ args) (entry ∷ more) ms ss ms2 ss2
unfolding rows
row_added arg args entry more ms ms2 ss ss2 r a =
    let p = passes arg entry.words r in
    let b = placed arg.kind (FitsArgs args) (values_in entry.words) a.memrefs a.symbols (counted entry.words (count_of arg.kind) p.counted) (all_between (range_of_kind arg.kind) (numbers_in entry.words) p.between) a.fits in
    record {
      memrefs = b.memrefs;
      symbols = b.symbols;
      left = a.left ∙ b.with_memrefs ms;
      right = a.right ∙ b.with_symbols ss;
      fits = b.fits;
      given = (gives arg entry.words (own_numbers arg.kind b.memrefs b.symbols) p b.own, subst (λ rest. GiveAll more rest) (sym (ap (λ m. rows args m (symbols_behind arg.kind b.symbols)) b.left ∙ ap (λ s. rows args a.memrefs s) b.right)) a.given);
    }

added : (args : List Arg) (lines : List Written) (end : ℕ) (ms ms2 : List Cells) (ss ss2 : List ℤ) → told args lines end ms ss ≡ Read ms2 ss2 → Added args lines ms ss ms2 ss2
unfolding told
added [] [] end ms ms2 ss ss2 h = nothing_added ms ms2 ss ss2 h
added [] (entry ∷ more) end ms ms2 ss ss2 h = absurd (left (rule_of_line None entry.words) refl h)
  where
    left : (o : Option ℕ) → rule_of_line None entry.words ≡ o → judged entry.number o (Read ms ss) ≡ Read ms2 ss2 → ⊥
    left None r h = left_over entry.words r
    left (Some n) r h = broken_read ms2 ss2 entry.number n h
added (arg ∷ args) [] end ms ms2 ss ss2 h = absurd (broken_read ms2 ss2 end 2 h)
added (arg ∷ args) (entry ∷ more) end ms ms2 ss ss2 h =
    cases (rule_of_line (Some arg) entry.words) refl h (added args more end (memrefs_with arg.kind (values_in entry.words) ms) ms2 (symbols_with arg.kind (values_in entry.words) ss) ss2)
  where
    cases : (o : Option ℕ) → rule_of_line (Some arg) entry.words ≡ o → judged entry.number o (told args more end (memrefs_with arg.kind (values_in entry.words) ms) (symbols_with arg.kind (values_in entry.words) ss)) ≡ Read ms2 ss2
        → (told args more end (memrefs_with arg.kind (values_in entry.words) ms) (symbols_with arg.kind (values_in entry.words) ss) ≡ Read ms2 ss2 → Added args more (memrefs_with arg.kind (values_in entry.words) ms) (symbols_with arg.kind (values_in entry.words) ss) ms2 ss2)
        → Added (arg ∷ args) (entry ∷ more) ms ss ms2 ss2
    cases (Some n) r h rest = absurd (broken_read ms2 ss2 entry.number n h)
    cases None r h rest = row_added arg args entry more ms ms2 ss ss2 r (rest h)

pub read_spells : (text : List ℕ) (m : Module) (end : ℕ) (image : Image) → told m.args (written text) end [] [] ≡ Read image.memrefs image.symbols → Spells text m image
read_spells text m end image h =
    let a = added m.args (written text) end [] image.memrefs [] image.symbols h in
    record {
      fits = record { fits = subst (λ x. FitsArgs m.args x image.symbols) (sym a.left) (subst (λ y. FitsArgs m.args a.memrefs y) (sym a.right) a.fits) };
      given = subst (λ x. GiveAll (written text) (rows m.args x image.symbols)) (sym a.left) (subst (λ y. GiveAll (written text) (rows m.args a.memrefs y)) (sym a.right) a.given);
    }

-- ---- From the image to the reading

-- what fits an argument, and what is left
pub record Taken (k : ArgKind) (F : List Cells → List ℤ → Type 0) (memrefs : List Cells) (symbols : List ℤ) : Type 0 where
  pub counts : length (own_numbers k memrefs symbols) ≡ count_of k
  pub between : AllBetween (range_of_kind k) (own_numbers k memrefs symbols)
  pub rest : F (memrefs_behind k memrefs) (symbols_behind k symbols)
  pub with_memrefs : (ms : List Cells) → memrefs_with k (own_numbers k memrefs symbols) ms ++ memrefs_behind k memrefs ≡ ms ++ memrefs
  pub with_symbols : (ss : List ℤ) → symbols_with k (own_numbers k memrefs symbols) ss ++ symbols_behind k symbols ≡ ss ++ symbols

pub taken : (k : ArgKind) (F : List Cells → List ℤ → Type 0) (memrefs : List Cells) (symbols : List ℤ) → FitsArg k F memrefs symbols → Taken k F memrefs symbols
taken (kind.Memref ty) F [] symbols f = absurd f
taken (kind.Memref ty) F (cells ∷ memrefs) symbols f = record {
  counts = f.0;
  between = All-weaker (InRange (element_bits ty.element)) (λ z. is_between (range_of_kind (kind.Memref ty)) z ≡ true) (range_in (element_bits ty.element)) cells.values f.1;
  rest = f.2;
  with_memrefs = λ ms. append_assoc ms (cells ∷ []) memrefs;
  with_symbols = λ ss. refl;
}
taken (kind.Index range) F memrefs [] f = absurd f
taken (kind.Index range) F memrefs (z ∷ symbols) f = record {
  counts = refl;
  between = All-cons (λ z. is_between (range_or range) z ≡ true) z [] (interval_in (range_or range) z f.0) (All-nil (λ z. is_between (range_or range) z ≡ true));
  rest = f.1;
  with_memrefs = λ ms. refl;
  with_symbols = λ ss. append_assoc ss (z ∷ []) symbols;
}

-- a line that gives the row of an argument breaks no rule
given_form : (name : List ℕ) (numbers : List (List ℕ)) → is_name name ≡ true → are_numbers numbers ≡ true → has_form (name ∷ codes "=" ∷ numbers) ≡ true
unfolding has_form
given_form name numbers n d = rw (n, d) refl

given_values : (line : List (List ℕ)) (r : Row) → Gives line r → values_in line ≡ r.numbers
given_values line r g = ap values_in g.spelled ∙ g.same

given_passes : (arg : Arg) (line : List (List ℕ)) (values : List ℤ) → Gives line (row arg.name.text values) → length values ≡ count_of arg.kind → AllBetween (range_of_kind arg.kind) values → rule_of_line (Some arg) line ≡ None
given_passes arg line values g l b =
    let v : values_in line ≡ values = given_values line (row arg.name.text values) g in
    let n : length (numbers_in line) ≡ count_of arg.kind = sym (length-map (numbers_in line) decimal_value) ∙ ap length v ∙ l in
    breaks_none arg line
    (ap has_form g.spelled ∙ given_form arg.name.text g.numbers g.named g.decimal)
    ((bytes_eq-Decides (name_in line) arg.name.text).1 (ap name_in g.spelled))
    (same (length (numbers_in line)) (count_of arg.kind) n)
    (between_all (range_of_kind arg.kind) (numbers_in line) (subst (λ zs. AllBetween (range_of_kind arg.kind) zs) (sym v) b))
  where
    same : (a b : ℕ) → a ≡ b → nat_eq a b ≡ true
    same a b h = grind (arith, nat_tests)

spelled : (args : List Arg) (lines : List Written) (end : ℕ) (ms : List Cells) (ss : List ℤ) (memrefs : List Cells) (symbols : List ℤ) → FitsArgs args memrefs symbols → GiveAll lines (rows args memrefs symbols) → told args lines end ms ss ≡ Read (ms ++ memrefs) (ss ++ symbols)
unfolding told rows
spelled [] [] end ms ss memrefs symbols f g = sym (ap (λ m. Read m (ss ++ symbols)) (ap (λ m. ms ++ m) f.0 ∙ append-nil ms) ∙ ap (λ s. Read ms s) (ap (λ s. ss ++ s) f.1 ∙ append-nil ss))
spelled [] (entry ∷ more) end ms ss memrefs symbols f g = absurd g
spelled (arg ∷ args) [] end ms ss memrefs symbols f g = absurd g
spelled (arg ∷ args) (entry ∷ more) end ms ss memrefs symbols f g =
    let t = taken arg.kind (FitsArgs args) memrefs symbols f in
    let v : values_in entry.words ≡ own_numbers arg.kind memrefs symbols = given_values entry.words (row arg.name.text (own_numbers arg.kind memrefs symbols)) g.0 in
    let r = given_passes arg entry.words (own_numbers arg.kind memrefs symbols) g.0 t.counts t.between in
    ap (λ o. judged entry.number o (told args more end (memrefs_with arg.kind (values_in entry.words) ms) (symbols_with arg.kind (values_in entry.words) ss))) r
    ∙ ap (λ values. told args more end (memrefs_with arg.kind values ms) (symbols_with arg.kind values ss)) v
    ∙ spelled args more end (memrefs_with arg.kind (own_numbers arg.kind memrefs symbols) ms) (symbols_with arg.kind (own_numbers arg.kind memrefs symbols) ss) (memrefs_behind arg.kind memrefs) (symbols_behind arg.kind symbols) t.rest g.1
    ∙ ap (λ m. Read m (symbols_with arg.kind (own_numbers arg.kind memrefs symbols) ss ++ symbols_behind arg.kind symbols)) (t.with_memrefs ms) ∙ ap (λ s. Read (ms ++ memrefs) s) (t.with_symbols ss)

pub spells_read : (text : List ℕ) (m : Module) (end : ℕ) (image : Image) → Spells text m image → told m.args (written text) end [] [] ≡ Read image.memrefs image.symbols
spells_read text m end image s = spelled m.args (written text) end [] [] image.memrefs image.symbols s.fits.fits s.given
