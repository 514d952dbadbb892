-- The lines that were taken so far, as rows.
use Rattle.std.proofs.Common.{◌≡◌, ◌∙◌, ◌<◌, ◌≤◌, ◌+◌, ◌^◌, ℕ, suc, Bool, true, false, List, [], ◌∷◌, ◌++◌, length, length-append, refl, sym, ap, subst, append_assoc, append-nil, arith}
use Rattle.std.specs.Prelude.{MatchBool}
use Rattle.rp_value.specs.declared.value.Value.{Value}
use Rattle.rp_columns.specs.declared.columns.InputColumn.{InputColumn}
use Rattle.rp_io.specs.Lines.{lines_of}
use Rattle.rp_objects.specs.ObjectRows.{AreBlank, AreRowsBy, AreRowsByObjects, IsByObjectsFault, IsFirstBad, IsLineFault, IsRowBy, TakesFull, is_blank, most_objects}
use Rattle.rp_objects.specs.declared.fault.ObjectsFault.{ObjectsFault}
use Rattle.rp_objects.specs.declared.fault.ObjectsFault.TheVariants.{NotObject, DoubleKey, Field, TooMany, OutOfMemory}

module _ (words : List (List ℕ)) (columns : List InputColumn) where
  -- lines that are blank, and then a row's
  last_row : (n : ℕ) (blank : List (List ℕ)) (line : List ℕ) (row : List Value) → AreBlank blank → is_blank line ≡ false → IsRowBy words columns n line row
      → AreRowsBy words columns n (blank ++ line ∷ []) (row ∷ [])
  last_row n [] line row none full is = subst (λ b. MatchBool b (AreRowsBy words columns n [] (row ∷ [])) (IsRowBy words columns n line row × AreRowsBy words columns (n + 1) [] [])) (sym full) (is, tt)
  last_row n (b ∷ blank) line row h full is =
      subst (λ t. MatchBool t (AreRowsBy words columns n (blank ++ line ∷ []) (row ∷ [])) (IsRowBy words columns n b row × AreRowsBy words columns (n + 1) (blank ++ line ∷ []) [])) (sym h.0)
      (last_row n blank line row h.1 full is)

  rows_more : (n : ℕ) (lines : List (List ℕ)) (rows : List (List Value)) (blank : List (List ℕ)) (line : List ℕ) (row : List Value)
      → AreRowsBy words columns n lines rows → AreBlank blank → is_blank line ≡ false → IsRowBy words columns (n + length rows) line row
      → AreRowsBy words columns n (lines ++ (blank ++ line ∷ [])) (rows ++ row ∷ [])
  rows_more n [] [] blank line row h skipped full is = let same : n + 0 ≡ n = omega arith in last_row n blank line row skipped full (subst (λ m. IsRowBy words columns m line row) same is)
  rows_more n [] (r ∷ rows) blank line row h skipped full is = absurd h
  rows_more n (l ∷ lines) [] blank line row h skipped full is =
      subst (λ t. MatchBool t (AreRowsBy words columns n (lines ++ (blank ++ line ∷ [])) (row ∷ [])) (IsRowBy words columns n l row × AreRowsBy words columns (n + 1) (lines ++ (blank ++ line ∷ [])) [])) (sym h.0)
      (rows_more n lines [] blank line row h.1 skipped full is)
  rows_more n (l ∷ lines) (r ∷ rows) blank line row h skipped full is =
      go (is_blank l) h (λ k. rows_more n lines (r ∷ rows) blank line row k skipped full is)
      (λ k. let same : n + suc (length rows) ≡ (n + 1) + length rows = omega arith in rows_more (n + 1) lines rows blank line row k skipped full (subst (λ m. IsRowBy words columns m line row) same is))
    where
      go : (t : Bool) → MatchBool t (AreRowsBy words columns n lines (r ∷ rows)) (IsRowBy words columns n l r × AreRowsBy words columns (n + 1) lines rows)
          → (AreRowsBy words columns n lines (r ∷ rows) → AreRowsBy words columns n (lines ++ (blank ++ line ∷ [])) ((r ∷ rows) ++ row ∷ []))
          → (AreRowsBy words columns (n + 1) lines rows → AreRowsBy words columns (n + 1) (lines ++ (blank ++ line ∷ [])) (rows ++ row ∷ []))
          → MatchBool t (AreRowsBy words columns n (lines ++ (blank ++ line ∷ [])) ((r ∷ rows) ++ row ∷ [])) (IsRowBy words columns n l r × AreRowsBy words columns (n + 1) (lines ++ (blank ++ line ∷ [])) (rows ++ row ∷ []))
      go true k same next = same k
      go false k same next = (k.0, next k.1)

  -- and lines that are blank, behind all rows
  all_blank : (n : ℕ) (blank : List (List ℕ)) → AreBlank blank → AreRowsBy words columns n blank []
  all_blank n [] h = tt
  all_blank n (b ∷ blank) h = (h.0, all_blank n blank h.1)

  rows_end : (n : ℕ) (lines : List (List ℕ)) (rows : List (List Value)) (blank : List (List ℕ)) → AreRowsBy words columns n lines rows → AreBlank blank → AreRowsBy words columns n (lines ++ blank) rows
  rows_end n [] [] blank h skipped = all_blank n blank skipped
  rows_end n [] (r ∷ rows) blank h skipped = absurd h
  rows_end n (l ∷ lines) [] blank h skipped = (h.0, rows_end n lines [] blank h.1 skipped)
  rows_end n (l ∷ lines) (r ∷ rows) blank h skipped = go (is_blank l) h (λ k. rows_end n lines (r ∷ rows) blank k skipped) (λ k. rows_end (n + 1) lines rows blank k skipped)
    where
      go : (t : Bool) → MatchBool t (AreRowsBy words columns n lines (r ∷ rows)) (IsRowBy words columns n l r × AreRowsBy words columns (n + 1) lines rows)
          → (AreRowsBy words columns n lines (r ∷ rows) → AreRowsBy words columns n (lines ++ blank) (r ∷ rows))
          → (AreRowsBy words columns (n + 1) lines rows → AreRowsBy words columns (n + 1) (lines ++ blank) rows)
          → MatchBool t (AreRowsBy words columns n (lines ++ blank) (r ∷ rows)) (IsRowBy words columns n l r × AreRowsBy words columns (n + 1) (lines ++ blank) rows)
      go true k same next = same k
      go false k same next = (k.0, next k.1)

-- the lines so far are these rows, and the next object has this number
pub record Taken (words : List (List ℕ)) (columns : List InputColumn) (text : List ℕ) (rows : List (List Value)) (number : ℕ) (rest : List ℕ) (taken : ℕ) : Type 0 where
  pub before : List (List ℕ)
  pub all : lines_of text ≡ before ++ lines_of rest
  pub are : AreRowsBy words columns 1 before rows
  pub place : taken ≡ length before
  pub count : number ≡ length rows + 1
  pub room : taken + length rest < 2 ^ 64

pub none_taken : (words : List (List ℕ)) (columns : List InputColumn) (text : List ℕ) → length text < 2 ^ 64 → Taken words columns text [] 1 text 0
none_taken words columns text small = record { before = []; all = refl; are = tt; place = refl; count = refl; room = omega (arith, small) }

module _ (words : List (List ℕ)) (columns : List InputColumn) (text : List ℕ) (rows : List (List Value)) (number : ℕ) (rest : List ℕ) (taken : ℕ) (t : Taken words columns text rows number rest taken) where
  pub all_taken : AreBlank (lines_of rest) → number ≤ most_objects + 1 → AreRowsByObjects words columns text rows
  all_taken blank small = record {
    are = subst (λ lines. AreRowsBy words columns 1 lines rows) (sym t.all) (rows_end words columns 1 t.before rows (lines_of rest) t.are blank);
    few = let count = t.count in omega arith;
  }

  module _ (new : List ℕ) (taken' : ℕ) (line : List ℕ) (one : TakesFull rest taken new taken' line) where
    lines : lines_of text ≡ (t.before ++ one.blank) ++ line ∷ lines_of new
    lines = t.all ∙ ap (λ l. t.before ++ l) one.are ∙ sym (append_assoc t.before one.blank (line ∷ lines_of new))

    place : taken' ≡ length (t.before ++ one.blank) + 1
    place = let at = t.place in let next = one.place in omega (arith, length-append t.before one.blank)

    pub taken_more : (row : List Value) → IsRowBy words columns number line row → taken' + length new < 2 ^ 64 → Taken words columns text (rows ++ row ∷ []) (number + 1) new taken'
    taken_more row is room =
        let count = t.count in
        let nth : number ≡ 1 + length rows = omega arith in
        record {
          before = t.before ++ (one.blank ++ line ∷ []);
          all = t.all ∙ ap (λ l. t.before ++ l) (one.are ∙ sym (append_assoc one.blank (line ∷ []) (lines_of new))) ∙ sym (append_assoc t.before (one.blank ++ line ∷ []) (lines_of new));
          are = rows_more words columns 1 t.before rows one.blank line row t.are one.skipped one.full (subst (λ m. IsRowBy words columns m line row) nth is);
          place = place ∙ omega (arith, length-append t.before one.blank, length-append t.before (one.blank ++ line ∷ []), length-append one.blank (line ∷ []));
          count = omega (arith, length-append rows (row ∷ []));
          room = room;
        }

    first_bad : (Why : ℕ → List ℕ → Type 0) → number ≤ most_objects + 1 → Why number line → IsFirstBad words columns text taken' Why
    first_bad Why small why =
        let count = t.count in
        record {
          before = t.before ++ one.blank;
          line = line;
          after = lines_of new;
          rows = rows;
          all = lines;
          are = rows_end words columns 1 t.before rows one.blank t.are one.skipped;
          is = place;
          full = one.full;
          few = omega arith;
          why = subst (λ n. Why n line) t.count why;
        }

    pub fault_taken : (fault : ObjectsFault) → number ≤ most_objects → IsLineFault words columns number line taken' fault → IsByObjectsFault words columns text fault
    fault_taken (NotObject at) small h = rw h.0 (first_bad _ (omega arith) h.1)
    fault_taken (DoubleKey at) small h = rw h.0 (first_bad _ (omega arith) h.1)
    fault_taken (Field at index why) small h = rw h.0 (first_bad _ (omega arith) h.1)
    fault_taken (TooMany at) small h = absurd h
    fault_taken OutOfMemory small h = tt

    pub too_many : number ≡ most_objects + 1 → IsByObjectsFault words columns text (TooMany taken')
    too_many is = first_bad _ (omega arith) (omega arith)

-- ---- lines that are passed over

-- the lines taken so far are blank
pub record Skipped (old : List ℕ) (taken : ℕ) (new : List ℕ) (taken' : ℕ) : Type 0 where
  pub blank : List (List ℕ)
  pub are : lines_of old ≡ blank ++ lines_of new
  pub skipped : AreBlank blank
  pub place : taken' ≡ taken + length blank

pub none_skipped : (old : List ℕ) (taken : ℕ) → Skipped old taken old taken
none_skipped old taken = record { blank = []; are = refl; skipped = tt; place = omega arith }

both_blank : (one other : List (List ℕ)) → AreBlank one → AreBlank other → AreBlank (one ++ other)
both_blank [] other h k = k
both_blank (l ∷ one) other h k = (h.0, both_blank one other h.1 k)

module _ (old : List ℕ) (taken : ℕ) (rest : List ℕ) (so_far : ℕ) (s : Skipped old taken rest so_far) (line new : List ℕ) (first : lines_of rest ≡ line ∷ lines_of new) where
  pub skip_one : is_blank line ≡ true → Skipped old taken new (so_far + 1)
  skip_one blank = record {
    blank = s.blank ++ line ∷ [];
    are = s.are ∙ ap (λ l. s.blank ++ l) first ∙ sym (append_assoc s.blank (line ∷ []) (lines_of new));
    skipped = both_blank s.blank (line ∷ []) s.skipped (blank, tt);
    place = let at = s.place in omega (arith, length-append s.blank (line ∷ []));
  }

  pub take_full : is_blank line ≡ false → TakesFull old taken new (so_far + 1) line
  take_full full = record {
    blank = s.blank;
    are = s.are ∙ ap (λ l. s.blank ++ l) first;
    skipped = s.skipped;
    full = full;
    place = let at = s.place in omega arith;
  }

pub only_blank : (old : List ℕ) (taken : ℕ) (rest : List ℕ) (so_far : ℕ) → Skipped old taken rest so_far → lines_of rest ≡ [] → AreBlank (lines_of old)
only_blank old taken rest so_far s none = subst AreBlank (sym (s.are ∙ ap (λ l. s.blank ++ l) none ∙ append-nil s.blank)) s.skipped
