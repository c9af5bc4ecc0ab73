-- The steps of loops that form expressions one after the other, each behind the locals of those before.
use Rattle.std.proofs.Common.{◌≡◌, ℕ, ◌+◌, ◌<◌, ◌≤◌, List, [], ◌∷◌, ◌++◌, length, drop, get_or, Result, Ok, Err, refl, sym, ap, ◌∙◌, append_assoc, append-nil}
use Rattle.affine_expr.specs.declared.expr.Expr.{Expr}
use Rattle.affine_expr.specs.declared.linear.LinearFault.{LinearFault}
use Rattle.affine_expr.specs.declared.map.Constraint.{Constraint}
use Rattle.affine_expr.specs.Forms.{Form, LocalForm}
use Rattle.affine_expr.specs.Linear.{◌>>=◌, State, state, over}
use Rattle.nest_domain.specs.Forms.{Formed, all_over, floor_rows, all_floor_rows}
use Rattle.nest_domain.specs.Domains.{compared_rows, set_rows}
use Rattle.nest_domain.proofs.Loops.{behind, from_place, past}

-- these forms, and then what follows
abbrev pub joined : List Form → Result Formed LinearFault → Result Formed LinearFault
joined xs (Ok r) = Ok (record { forms = xs ++ r.forms; locals = r.locals })
joined xs (Err e) = Err e

joined-more : (out rows : List Form) (r : Result Formed LinearFault) → joined out (r >>= (λ rest. Ok (record { forms = rows ++ rest.forms; locals = rest.locals }))) ≡ joined (out ++ rows) r
joined-more out rows (Ok r) = ap (λ xs. Ok (record { forms = xs; locals = r.locals })) (sym (append_assoc out rows r.forms))
joined-more out rows (Err e) = refl

module _ (width : ℕ) (ds ss : List Form) where
  pub forms_go_on : (es : List Expr) (i : ℕ) (e : Expr) (out : List Form) (ls ms : List LocalForm) (f : Form) → i < length es → e ≡ get_or es i e → (over width ds ss e).form ls ≡ Ok (state f ms)
      → joined out (all_over width ds ss (drop i es) ls) ≡ joined (out ++ f ∷ []) (all_over width ds ss (drop (i + 1) es) ms)
  forms_go_on es i e out ls ms f h is k =
      ap (λ l. joined out (all_over width ds ss l ls)) (from_place es i e h is)
      ∙ ap (λ w. joined out (w >>= (λ (s : State). all_over width ds ss (drop (i + 1) es) s.locals >>= (λ (rest : Formed). Ok (record { forms = s.form ∷ rest.forms; locals = rest.locals }))))) k
      ∙ joined-more out (f ∷ []) (all_over width ds ss (drop (i + 1) es) ms)

  pub forms_stop : (es : List Expr) (i : ℕ) (e : Expr) (out : List Form) (ls : List LocalForm) (x : LinearFault) → i < length es → e ≡ get_or es i e → (over width ds ss e).form ls ≡ Err x → joined out (all_over width ds ss (drop i es) ls) ≡ Err x
  forms_stop es i e out ls x h is k =
      ap (λ l. joined out (all_over width ds ss l ls)) (from_place es i e h is)
      ∙ ap (λ w. joined out (w >>= (λ (s : State). all_over width ds ss (drop (i + 1) es) s.locals >>= (λ (rest : Formed). Ok (record { forms = s.form ∷ rest.forms; locals = rest.locals }))))) k

  pub forms_end : (es : List Expr) (i : ℕ) (out : List Form) (ls : List LocalForm) → length es ≤ i → joined out (all_over width ds ss (drop i es) ls) ≡ Ok (record { forms = out; locals = ls })
  forms_end es i out ls h = ap (λ l. joined out (all_over width ds ss l ls)) (past es i h) ∙ ap (λ xs. Ok (record { forms = xs; locals = ls })) (append-nil out)

  -- ---- the constraints of a set
  abbrev pub row_of : Constraint → List LocalForm → Result Formed LinearFault
  row_of c ls = do
    left ← (over width ds ss c.left).form ls
    right ← (over width ds ss c.right).form left.locals
    rows ← compared_rows c.rel left.form right.form
    Ok (record { forms = rows; locals = right.locals })

  abbrev rest_of : List Constraint → List Form → List LocalForm → Result Formed LinearFault
  rest_of cs rows ms = set_rows width ds ss cs ms >>= (λ (rest : Formed). Ok (record { forms = rows ++ rest.forms; locals = rest.locals }))

  flat : (c : Constraint) (ls : List LocalForm) (cs : List Constraint) (out : List Form) → joined out (set_rows width ds ss (c ∷ cs) ls) ≡ joined out (row_of c ls >>= (λ (r : Formed). set_rows width ds ss cs r.locals >>= (λ (rest : Formed). Ok (record { forms = r.forms ++ rest.forms; locals = rest.locals }))))
  flat c ls cs out = by ((over width ds ss c.left).form ls)
    where
      third : (left right : State) (w : Result (List Form) LinearFault) → (w >>= (λ rows. rest_of cs rows right.locals)) ≡ ((w >>= (λ rows. Ok (record { forms = rows; locals = right.locals }))) >>= (λ (r : Formed). rest_of cs r.forms r.locals))
      third left right (Ok rows) = refl
      third left right (Err e) = refl

      second : (left : State) (w : Result State LinearFault) → (w >>= (λ (right : State). compared_rows c.rel left.form right.form >>= (λ rows. rest_of cs rows right.locals)))
          ≡ ((w >>= (λ (right : State). compared_rows c.rel left.form right.form >>= (λ rows. Ok (record { forms = rows; locals = right.locals })))) >>= (λ (r : Formed). rest_of cs r.forms r.locals))
      second left (Ok right) = third left right (compared_rows c.rel left.form right.form)
      second left (Err e) = refl

      by : (w : Result State LinearFault) → joined out (w >>= (λ (left : State). (over width ds ss c.right).form left.locals >>= (λ (right : State). compared_rows c.rel left.form right.form >>= (λ rows. rest_of cs rows right.locals))))
          ≡ joined out ((w >>= (λ (left : State). (over width ds ss c.right).form left.locals >>= (λ (right : State). compared_rows c.rel left.form right.form >>= (λ rows. Ok (record { forms = rows; locals = right.locals }))))) >>= (λ (r : Formed). rest_of cs r.forms r.locals))
      by (Ok left) = ap (joined out) (second left ((over width ds ss c.right).form left.locals))
      by (Err e) = refl

  pub rows_go_on : (cs : List Constraint) (i : ℕ) (c : Constraint) (out rows : List Form) (ls ms : List LocalForm) → i < length cs → c ≡ get_or cs i c → row_of c ls ≡ Ok (record { forms = rows; locals = ms })
      → joined out (set_rows width ds ss (drop i cs) ls) ≡ joined (out ++ rows) (set_rows width ds ss (drop (i + 1) cs) ms)
  rows_go_on cs i c out rows ls ms h is k =
      ap (λ l. joined out (set_rows width ds ss l ls)) (from_place cs i c h is) ∙ flat c ls (drop (i + 1) cs) out
      ∙ ap (λ w. joined out (w >>= (λ (r : Formed). set_rows width ds ss (drop (i + 1) cs) r.locals >>= (λ (rest : Formed). Ok (record { forms = r.forms ++ rest.forms; locals = rest.locals }))))) k
      ∙ joined-more out rows (set_rows width ds ss (drop (i + 1) cs) ms)

  pub rows_stop : (cs : List Constraint) (i : ℕ) (c : Constraint) (out : List Form) (ls : List LocalForm) (x : LinearFault) → i < length cs → c ≡ get_or cs i c → row_of c ls ≡ Err x → joined out (set_rows width ds ss (drop i cs) ls) ≡ Err x
  rows_stop cs i c out ls x h is k =
      ap (λ l. joined out (set_rows width ds ss l ls)) (from_place cs i c h is) ∙ flat c ls (drop (i + 1) cs) out
      ∙ ap (λ w. joined out (w >>= (λ (r : Formed). set_rows width ds ss (drop (i + 1) cs) r.locals >>= (λ (rest : Formed). Ok (record { forms = r.forms ++ rest.forms; locals = rest.locals }))))) k

  pub rows_end : (cs : List Constraint) (i : ℕ) (out : List Form) (ls : List LocalForm) → length cs ≤ i → joined out (set_rows width ds ss (drop i cs) ls) ≡ Ok (record { forms = out; locals = ls })
  rows_end cs i out ls h = ap (λ l. joined out (set_rows width ds ss l ls)) (past cs i h) ∙ ap (λ xs. Ok (record { forms = xs; locals = ls })) (append-nil out)

-- ---- the rows of locals
floors-more : (out rows : List Form) (r : Result (List Form) LinearFault) → behind out (r >>= (λ rest. Ok (rows ++ rest))) ≡ behind (out ++ rows) r
floors-more out rows (Ok r) = ap Ok (sym (append_assoc out rows r))
floors-more out rows (Err e) = refl

pub floors_go_on : (ls : List LocalForm) (i : ℕ) (l : LocalForm) (out rows : List Form) → i < length ls → l ≡ get_or ls i l → floor_rows l ≡ Ok rows → behind out (all_floor_rows (drop i ls)) ≡ behind (out ++ rows) (all_floor_rows (drop (i + 1) ls))
floors_go_on ls i l out rows h is k =
    ap (λ x. behind out (all_floor_rows x)) (from_place ls i l h is) ∙ ap (λ w. behind out (w >>= (λ rows. all_floor_rows (drop (i + 1) ls) >>= (λ rest. Ok (rows ++ rest))))) k ∙ floors-more out rows (all_floor_rows (drop (i + 1) ls))

pub floors_stop : (ls : List LocalForm) (i : ℕ) (l : LocalForm) (out : List Form) (e : LinearFault) → i < length ls → l ≡ get_or ls i l → floor_rows l ≡ Err e → behind out (all_floor_rows (drop i ls)) ≡ Err e
floors_stop ls i l out e h is k = ap (λ x. behind out (all_floor_rows x)) (from_place ls i l h is) ∙ ap (λ w. behind out (w >>= (λ rows. all_floor_rows (drop (i + 1) ls) >>= (λ rest. Ok (rows ++ rest))))) k

pub floors_end : (ls : List LocalForm) (i : ℕ) (out : List Form) → length ls ≤ i → behind out (all_floor_rows (drop i ls)) ≡ Ok out
floors_end ls i out h = ap (λ x. behind out (all_floor_rows x)) (past ls i h) ∙ ap Ok (append-nil out)
