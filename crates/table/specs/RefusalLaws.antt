-- Every refusal is said exactly where its condition holds.
--
--   refused_number  == a refusal's number is one of 1 to 6
--   header_means, code_means, entry_means, pair_means, role_row_means, row_means, line_means, body_means == each reader's refusals have their conditions
--   refused_means   == a refusal of the reading has its condition
--   in_role_rows, in_rows, in_lines, in_end == how the reading ends behind right role rows, rows and lines
--   Judged x at, judged == what is refused at `at`, where x stands next; first_judged, second_judged, of two codes
--   means_refusal   == where the condition holds, the reading is that refusal
--   refused_exactly == THE READING IS A REFUSAL EXACTLY IF ITS CONDITION HOLDS
use Rattle.std.specs.Prelude.{◌≡◌, not, ◌↔◌, ℕ, suc, ◌+◌, ◌≤◌, ◌<◌, ltb}
use Rattle.std.proofs.Math.Path.{refl, ap, subst}
use Rattle.std.proofs.Common.{sym, ◌∙◌, arith, ltb→lt, lt→ltb, length-append}
use mathlib.Core.List.{List, [], ◌∷◌, ◌++◌, flat_map, append_assoc, append-nil}
use Rattle.std.proofs.Math.Option.{Option, none, some}
use Rattle.std.proofs.Math.Decide.{dec_le}
use Rattle.std.proofs.Math.Dec.{T}
use Rattle.std.proofs.Math.ListN.{length, drop}
use borrow.Author.Tests.{ltb-true, ltb-false, leb-true, leb-false, lt-ltb, le-ltb, not-true, not-false}
use Rattle.el.specs.TestLaws.{is_true, is_false, true_is, false_not}
use Rattle.el.specs.Roles.{RoleRow}
use Rattle.el.specs.Table.{Entry, Row, Line, Table, entry_declared}
use Rattle.answer.specs.declared.Answer.{Answer}
use Rattle.answer.specs.declared.Answer.TheVariants.{EndsEarly, WrongMark, WrongVersion, OverBound, NotAllowed, BytesAfter}
use Rattle.answer.specs.Handed.{handed}
use Rattle.bounds.specs.Bounds.{bounds, max_constants, max_restrictions, max_atoms, max_roles, max_variables, max_lines, max_left, max_role_rows}
use Rattle.table.specs.declared.Header.{Header}
use Rattle.table.specs.Code.{role_of, filler_of, entry_of}
use Rattle.table.specs.CodeLaws.{role_code, role_none, role_is}
use Rattle.table.specs.Reading.{Read, refused, got, and_then, read_pair, byte_at, missing, read_code, constants_place, roles_place, variables_place, restrictions_place, lines_place, header_length, role_rows_place, header_end, header_of, marked, version_known, read_counts, then_there, read_header, role_row_of, row_of, read_role, read_entry, read_role_row, read_role_rows, read_row, read_rows, read_entries, then_right, table_with, read_line, read_lines, then_end, then_lines, then_rows, read_body, refusal, whole, from_header, reading}
use Rattle.table.specs.Bytes.{written_entry, bytes_with, Right}
use Rattle.table.specs.Standing.{Means, Many, First, after_role_rows, after_rows, HeaderRead}
use Rattle.table.specs.ManyLaws.{if_passed, if_refused, means_got, means_if, means_or, means_then, means_many, many_got, many_whole, many_stopped, stands_then, many_written, many_read}
use Rattle.table.specs.ReadLaws.{code_short, code_answer, code_read, pair_stop, pair_next, line_short, line_over, line_opened, counts_within, counts_read, header_short, header_mark, header_version, header_counts, header_all, header_read}
use Rattle.table.specs.StandsLaws.{here_byte, byte_here, entry_stands, entry_reads}
use Rattle.table.specs.BytesLaws.{first_then, first_all, first_byte, behind, role_rows_there, rows_there, lines_there, header_there, role_rows_first, rows_next, lines_end, lines_next}
use Rattle.table.specs.Refusal.{Slot, a_narrower, a_wider, a_role, a_filler, a_count, an_entry, nothing, Awaited, Begins, Refuses, Over, over_constants, over_roles, over_variables, over_restrictions, over_atoms, over_lines, over_role_rows, RefusedAt, header_cut, wrong_mark, wrong_version, over_bound, no_role_count, over_left, ends_early, not_allowed, bytes_after}

pub refused_number : {s : List ℕ} {why : Answer} → RefusedAt s why → (1 ≤ (handed why).number) × ((handed why).number ≤ 6)
refused_number (header_cut w) = (omega arith, omega arith)
refused_number (wrong_mark l m) = (omega arith, omega arith)
refused_number (wrong_version l m v) = (omega arith, omega arith)
refused_number (over_bound l m v o) = (omega arith, omega arith)
refused_number (no_role_count l m v w c) = (omega arith, omega arith)
refused_number (over_left h good p tail b e w) = (omega arith, omega arith)
refused_number (ends_early h x n b) = (omega arith, omega arith)
refused_number (not_allowed h x good b tail g e r) = (omega arith, omega arith)
refused_number (bytes_after h good b tail g e) = (omega arith, omega arith)

------------------------------------------------------------------ a refusal has its condition

module _ (s : List ℕ) where
  header_means : Means (RefusedAt s) (read_header bounds s)
  unfolding read_header read_counts
  header_means =
      means_if _ (ltb (length s) header_length) (EndsEarly (length s)) _ (λ e. header_cut (ltb-true (length s) header_length e))
      (λ e. let long : header_length ≤ length s = ltb-false (length s) header_length e in
      means_if _ (not (marked s)) WrongMark _ (λ f. wrong_mark long (false_not (marked s) (not-true (marked s) f)))
      (λ f. let mark : T (marked s) = true_is (marked s) (not-false (marked s) f) in
      means_if _ (not (version_known s)) WrongVersion _ (λ g. wrong_version long mark (false_not (version_known s) (not-true (version_known s) g)))
      (λ g. let version : T (version_known s) = true_is (version_known s) (not-false (version_known s) g) in
      means_then _ (read_counts bounds (header_of s)) (then_there s) (counts_mean long mark version)
      (λ h end q. means_if _ (ltb (length s) end) (EndsEarly (length s)) _ (λ i. counts_cut long mark version h end q (ltb-true (length s) end i)) (λ i. means_got _ h end)))))
    where
      counts_mean : header_length ≤ length s → T (marked s) → T (version_known s) → Means (RefusedAt s) (read_counts bounds (header_of s))
      counts_mean long mark version =
          means_if _ (ltb max_constants (header_of s).c) (OverBound constants_place) _ (λ a. over_bound long mark version (over_constants (ltb-true max_constants (header_of s).c a)))
          (λ a. let constants : (header_of s).c ≤ max_constants = ltb-false max_constants (header_of s).c a in
          means_if _ (ltb max_roles (header_of s).r) (OverBound roles_place) _ (λ i. over_bound long mark version (over_roles constants (ltb-true max_roles (header_of s).r i)))
          (λ i. let roles : (header_of s).r ≤ max_roles = ltb-false max_roles (header_of s).r i in
          means_if _ (ltb max_variables (header_of s).v) (OverBound variables_place) _ (λ j. over_bound long mark version (over_variables constants roles (ltb-true max_variables (header_of s).v j)))
          (λ j. let variables : (header_of s).v ≤ max_variables = ltb-false max_variables (header_of s).v j in
          means_if _ (ltb max_restrictions (header_of s).e) (OverBound restrictions_place) _ (λ b. over_bound long mark version (over_restrictions constants roles variables (ltb-true max_restrictions (header_of s).e b)))
          (λ b. let restrictions : (header_of s).e ≤ max_restrictions = ltb-false max_restrictions (header_of s).e b in
          means_if _ (ltb max_atoms ((header_of s).c + (header_of s).e)) (OverBound restrictions_place) _ (λ k. over_bound long mark version (over_atoms constants roles variables restrictions (ltb-true max_atoms ((header_of s).c + (header_of s).e) k)))
          (λ k. let atoms : (header_of s).c + (header_of s).e ≤ max_atoms = ltb-false max_atoms ((header_of s).c + (header_of s).e) k in
          means_if _ (ltb max_lines (header_of s).m) (OverBound lines_place) _ (λ l. over_bound long mark version (over_lines constants roles variables restrictions atoms (ltb-true max_lines (header_of s).m l)))
          (λ l. let lines : (header_of s).m ≤ max_lines = ltb-false max_lines (header_of s).m l in
          means_if _ (ltb max_role_rows (header_of s).q) (OverBound role_rows_place) _ (λ n. over_bound long mark version (over_role_rows constants roles variables restrictions atoms lines (ltb-true max_role_rows (header_of s).q n)))
          (λ n. means_got _ (header_of s) (header_end (header_of s)))))))))

      counts_cut : header_length ≤ length s → T (marked s) → T (version_known s) → (h : Header) (end : ℕ) → read_counts bounds (header_of s) ≡ got h end → length s < end → RefusedAt s (EndsEarly (length s))
      counts_cut long mark version h end q w =
          let r = counts_read bounds (header_of s) h end q in
          no_role_count long mark version r.0 (subst (λ (k : ℕ). length s < k) (sym r.2) w)

  module _ (h : Header) where
    -- the two ways in which a byte is refused
    early : (x : Slot) (good : List ℕ) (at : ℕ) → First s good at → Begins h good x → Awaited x → length s ≤ at → RefusedAt s (EndsEarly (length s))
    early x good at f b n w = ends_early h x n (subst (λ (l : List ℕ). Begins h l x) (sym (first_all s good at f w)) b)

    wrong : (x : Slot) (good : List ℕ) (at : ℕ) → First s good at → Begins h good x → at < length s → Refuses h x (byte_at s at) → RefusedAt s (NotAllowed at)
    wrong x good at f b w r = subst (λ (p : ℕ). RefusedAt s (NotAllowed p)) (sym f.1) (not_allowed h x good (byte_at s at) (drop (at + 1) s) b (first_byte s good at f w) r)

    code_means : {A : Type 0} (of : ℕ → Option A) (x : Slot) → Awaited x → ((b : ℕ) → of b ≡ none → Refuses h x b) → (good : List ℕ) (at : ℕ) → First s good at → Begins h good x → Means (RefusedAt s) (read_code s of at)
    unfolding read_code
    code_means of x n r good at f b =
        means_if _ (missing s at) (EndsEarly (length s)) _ (λ e. early x good at f b n (leb-true (length s) at e))
        (λ e. means_or _ at (of (byte_at s at)) (λ i. wrong x good at f b (leb-false (length s) at e) (r (byte_at s at) i)))

    entry_means : (good : List ℕ) (at : ℕ) → First s good at → Begins h good an_entry → Means (RefusedAt s) (read_entry s h at)
    entry_means = code_means (entry_of h.c h.e h.v) an_entry tt (λ b q. q)

    -- a role, and then what g makes of the next byte, where y stands behind the role
    pair_means : {B C : Type 0} (g : ℕ → Option B) (make : ℕ → B → C) (x y : Slot) → Awaited x → Awaited y → ((b : ℕ) → h.r ≤ b → Refuses h x b) → ((b : ℕ) → g b ≡ none → Refuses h y b)
        → (good : List ℕ) (at : ℕ) → First s good at → Begins h good x → ((b : ℕ) → b < h.r → Begins h (good ++ (b ∷ [])) y) → Means (RefusedAt s) (read_pair (read_role s h) (read_code s g) make at)
    unfolding read_pair
    pair_means g make x y nx ny rx ry good at f b behind =
        means_then _ (read_role s h at) _ (code_means (role_of h.r) x nx (λ b q. rx b ((role_none h.r b).0 q)) good at f b)
        (λ a next q. let i = code_read s (role_of h.r) at a next q in
        let low = role_code h.r (byte_at s at) a i.1 in
        let there : First s (good ++ (byte_at s at ∷ [])) next = first_then s good (byte_at s at ∷ []) at next f (byte_here s at i.0 ∙ ap (λ (k : ℕ). byte_at s at ∷ drop k s) (sym i.2), i.2) in
        means_then _ (read_code s g next) _
        (code_means g y ny ry (good ++ (byte_at s at ∷ [])) next there (behind (byte_at s at) (subst (λ (k : ℕ). k < h.r) (sym low.0) (ltb→lt a h.r low.1))))
        (λ b end e. means_got _ _ end))

    role_row_means : (role_rows : List RoleRow) (at : ℕ) → length role_rows < h.q → First s (bytes_with h role_rows [] []) at × Right h role_rows [] [] → Means (RefusedAt s) (read_role_row s h at)
    role_row_means role_rows at fewer (f, right) =
        pair_means (role_of h.r) role_row_of a_narrower a_wider tt tt (λ b w. w) (λ b q. (role_none h.r b).0 q) (bytes_with h role_rows [] []) at f (role_rows, right, fewer, refl)
        (λ b low. (role_rows, b, right, fewer, low, refl))

    row_means : (role_rows : List RoleRow) (rows : List Row) (at : ℕ) → length role_rows ≡ h.q → length rows < h.e → First s (bytes_with h role_rows rows []) at × Right h role_rows rows [] → Means (RefusedAt s) (read_row s h at)
    row_means role_rows rows at all fewer (f, right) =
        pair_means (filler_of h.c h.v) row_of a_role a_filler tt tt (λ b w. w) (λ b q. q) (bytes_with h role_rows rows []) at f (role_rows, rows, right, all, fewer, refl)
        (λ b low. (role_rows, rows, b, right, all, fewer, low, refl))

    line_means : (role_rows : List RoleRow) (rows : List Row) (lines : List Line) (at : ℕ) → length role_rows ≡ h.q → length rows ≡ h.e → length lines < h.m → First s (bytes_with h role_rows rows lines) at × Right h role_rows rows lines → Means (RefusedAt s) (read_line bounds s h at)
    unfolding read_line
    line_means role_rows rows lines at whole_first all fewer (f, right) =
        means_if _ (missing s at) (EndsEarly (length s)) _ (λ e. early a_count (bytes_with h role_rows rows lines) at f begins tt (leb-true (length s) at e))
        (λ e. let inside : at < length s = leb-false (length s) at e in
        means_if _ (ltb max_left (byte_at s at)) (OverBound at) _
        (λ g. subst (λ (p : ℕ). RefusedAt s (OverBound p)) (sym f.1) (over_left h (bytes_with h role_rows rows lines) (byte_at s at) (drop (at + 1) s) begins (first_byte s (bytes_with h role_rows rows lines) at f inside) (ltb-true max_left (byte_at s at) g)))
        (λ g. let few : byte_at s at ≤ max_left = ltb-false max_left (byte_at s at) g in
        means_then _ (read_entries s h (byte_at s at) (at + 1)) _
        (means_many _ (read_entry s h) (byte_at s at) (at + 1) (λ xs mid m w. entry inside few xs mid m (omega arith)))
        (λ left next q. let m = many_got (read_entry s h) (byte_at s at) (at + 1) left next q in
        means_then _ (read_entry s h next) _ (entry inside few left next m.1 (let c : length left ≡ byte_at s at = m.0 in omega arith)) (λ a k r. means_got _ _ k))))
      where
        begins : Begins h (bytes_with h role_rows rows lines) a_count
        begins = (role_rows, rows, lines, right, whole_first, all, fewer, refl)

        entry : at < length s → byte_at s at ≤ max_left → (xs : List Entry) (mid : ℕ) → Many (read_entry s h) xs (at + 1) mid → length xs ≤ byte_at s at → Means (RefusedAt s) (read_entry s h mid)
        entry inside few xs mid m w =
            let st = many_written s (read_entry s h) written_entry (entry_declared (table_with h role_rows rows lines)) (entry_stands s h role_rows rows lines all) xs (at + 1) mid m in
            entry_means (bytes_with h role_rows rows lines ++ (byte_at s at ∷ flat_map written_entry xs)) mid
            (first_then s (bytes_with h role_rows rows lines) (byte_at s at ∷ flat_map written_entry xs) at mid f
            (stands_then s at (at + 1) mid (byte_at s at ∷ []) (flat_map written_entry xs) (byte_here s at inside, refl) st.0))
            (role_rows, rows, lines, byte_at s at, xs, right, whole_first, all, fewer, few, w, st.1, refl)

    body_means : HeaderRead bounds s h → Means (RefusedAt s) (read_body bounds s h)
    unfolding read_body
    body_means read =
        means_then _ (read_role_rows s h h.q (header_end h)) _
        (means_many _ (read_role_row s h) h.q (header_end h) (λ role_rows first k w. role_row_means role_rows first w (role_rows_there s h read role_rows first k)))
        (λ role_rows first p. let k = many_got (read_role_row s h) h.q (header_end h) role_rows first p in
        means_then _ (read_rows s h h.e first) _
        (means_many _ (read_row s h) h.e first (λ rows mid m w. row_means role_rows rows mid k.0 w (rows_there s h read role_rows first k.1 rows mid m)))
        (λ rows mid q. let m = many_got (read_row s h) h.e first rows mid q in
        means_then _ (read_lines bounds s h h.m mid) _
        (means_many _ (read_line bounds s h) h.m mid (λ lines end n w. line_means role_rows rows lines end k.0 m.0 w (lines_there s h read role_rows first k.1 rows mid m.1 m.0 lines end n)))
        (λ lines end i. let n = many_got (read_line bounds s h) h.m mid lines end i in
        let there = lines_there s h read role_rows first k.1 rows mid m.1 m.0 lines end n.1 in
        means_if _ (ltb end (length s)) (BytesAfter end) _
        (λ e. subst (λ (p : ℕ). RefusedAt s (BytesAfter p)) (sym there.0.1)
        (bytes_after h (bytes_with h role_rows rows lines) (byte_at s end) (drop (end + 1) s) (role_rows, rows, lines, there.1, k.0, m.0, n.0, refl) (first_byte s (bytes_with h role_rows rows lines) end there.0 (ltb-true end (length s) e))))
        (λ e. means_got _ _ end))))

  pub refused_means : (why : Answer) → reading s ≡ refusal why → RefusedAt s why
  unfolding reading
  refused_means why q = go (read_header bounds s) refl q
    where
      same : (was : Answer) → refusal was ≡ refusal why → RefusedAt s was → RefusedAt s why
      same was q r = let a : was ≡ why = cc in subst (RefusedAt s) a r

      inner : (h : Header) (at : ℕ) → read_header bounds s ≡ got h at → (x : Read Table) → read_body bounds s h ≡ x → whole h x ≡ refusal why → RefusedAt s why
      inner h at e (refused was) f q = same was q (body_means h (header_read bounds s h at e) was f)
      inner h at e (got t end) f q = absurd (let z : ◌≡◌ {A = ℕ} 0 1 = cc in let y : ⊥ = omega arith in y)

      go : (x : Read Header) → read_header bounds s ≡ x → from_header bounds s x ≡ refusal why → RefusedAt s why
      go (refused was) e q = same was q (header_means was e)
      go (got h at) e q = inner h at e (read_body bounds s h) refl q

------------------------------------------------------------------ where the condition holds, the reading is that refusal

pub counts_over : (h : Header) {at : ℕ} → Over h at → read_counts bounds h ≡ refused (OverBound at)
unfolding read_counts
counts_over h (over_constants w) = if_refused _ _ _ (lt-ltb max_constants h.c w)
counts_over h (over_roles c w) = if_passed _ _ _ (le-ltb max_constants h.c c) ∙ if_refused _ _ _ (lt-ltb max_roles h.r w)
counts_over h (over_variables c r w) = if_passed _ _ _ (le-ltb max_constants h.c c) ∙ if_passed _ _ _ (le-ltb max_roles h.r r) ∙ if_refused _ _ _ (lt-ltb max_variables h.v w)
counts_over h (over_restrictions c r u w) =
    if_passed _ _ _ (le-ltb max_constants h.c c) ∙ if_passed _ _ _ (le-ltb max_roles h.r r) ∙ if_passed _ _ _ (le-ltb max_variables h.v u) ∙ if_refused _ _ _ (lt-ltb max_restrictions h.e w)
counts_over h (over_atoms c r u e w) =
    if_passed _ _ _ (le-ltb max_constants h.c c) ∙ if_passed _ _ _ (le-ltb max_roles h.r r) ∙ if_passed _ _ _ (le-ltb max_variables h.v u) ∙ if_passed _ _ _ (le-ltb max_restrictions h.e e)
    ∙ if_refused _ _ _ (lt-ltb max_atoms (h.c + h.e) w)
counts_over h (over_lines c r u e a w) =
    if_passed _ _ _ (le-ltb max_constants h.c c) ∙ if_passed _ _ _ (le-ltb max_roles h.r r) ∙ if_passed _ _ _ (le-ltb max_variables h.v u) ∙ if_passed _ _ _ (le-ltb max_restrictions h.e e)
    ∙ if_passed _ _ _ (le-ltb max_atoms (h.c + h.e) a) ∙ if_refused _ _ _ (lt-ltb max_lines h.m w)
counts_over h (over_role_rows c r u e a l w) =
    if_passed _ _ _ (le-ltb max_constants h.c c) ∙ if_passed _ _ _ (le-ltb max_roles h.r r) ∙ if_passed _ _ _ (le-ltb max_variables h.v u) ∙ if_passed _ _ _ (le-ltb max_restrictions h.e e)
    ∙ if_passed _ _ _ (le-ltb max_atoms (h.c + h.e) a) ∙ if_passed _ _ _ (le-ltb max_lines h.m l) ∙ if_refused _ _ _ (lt-ltb max_role_rows h.q w)

module _ (s : List ℕ) where
  module _ (h : Header) where
    -- a line is refused where one of its entries, the right one among them, is
    line_refused : (at : ℕ) → at < length s → byte_at s at ≤ max_left → (xs : List Entry) (mid : ℕ) → Many (read_entry s h) xs (at + 1) mid → length xs ≤ byte_at s at
        → (why : Answer) → read_entry s h mid ≡ refused why → read_line bounds s h at ≡ refused why
    line_refused at l few xs mid m w why q = line_opened bounds s h at l few ∙ go (dec_le (byte_at s at) (length xs))
      where
        go : Dec (byte_at s at ≤ length xs) → and_then (read_entries s h (byte_at s at) (at + 1)) (then_right s h) ≡ refused why
        go (yes v) =
            ap (λ (x : Read (List Entry)). and_then x (then_right s h)) (many_whole (read_entry s h) (byte_at s at) xs (at + 1) mid (omega arith) m)
            ∙ ap (λ (x : Read Entry). and_then x (λ right end. got (record { left = xs; right = right }) end)) q
        go (no v) = ap (λ (x : Read (List Entry)). and_then x (then_right s h)) (many_stopped (read_entry s h) (byte_at s at) xs (at + 1) mid why m (omega arith) q)

    module _ (role_rows : List RoleRow) (rows : List Row) (lines : List Line) (tail : List ℕ) (right : Right h role_rows rows lines) (is : s ≡ bytes_with h role_rows rows lines ++ tail) where
      in_body : (why : Answer) → read_body bounds s h ≡ refused why → reading s ≡ refusal why
      unfolding reading
      in_body why q = ap (from_header bounds s) (header_all bounds s h (header_there s h role_rows rows lines tail right is)) ∙ ap (whole h) q

      in_role_row : length role_rows < h.q → (why : Answer) → read_role_row s h (after_role_rows h role_rows) ≡ refused why → reading s ≡ refusal why
      unfolding read_body
      in_role_row fewer why q =
          in_body why
          (ap (λ (x : Read (List RoleRow)). and_then x (then_rows bounds s h)) (many_stopped (read_role_row s h) h.q role_rows (header_end h) _ why (role_rows_first s h role_rows rows lines tail right is) fewer q))

      module _ (whole_first : length role_rows ≡ h.q) where
        past_role_rows : read_body bounds s h ≡ then_rows bounds s h role_rows (after_role_rows h role_rows)
        unfolding read_body
        past_role_rows = ap (λ (x : Read (List RoleRow)). and_then x (then_rows bounds s h)) (many_whole (read_role_row s h) h.q role_rows (header_end h) _ whole_first (role_rows_first s h role_rows rows lines tail right is))

        in_row : length rows < h.e → (why : Answer) → read_row s h (after_rows h role_rows rows) ≡ refused why → reading s ≡ refusal why
        in_row fewer why q =
            in_body why
            (past_role_rows ∙ ap (λ (x : Read (List Row)). and_then x (then_lines bounds s h role_rows)) (many_stopped (read_row s h) h.e rows (after_role_rows h role_rows) _ why (rows_next s h role_rows rows lines tail right is) fewer q))

        module _ (all : length rows ≡ h.e) where
          past_rows : read_body bounds s h ≡ then_lines bounds s h role_rows rows (after_rows h role_rows rows)
          past_rows = past_role_rows ∙ ap (λ (x : Read (List Row)). and_then x (then_lines bounds s h role_rows)) (many_whole (read_row s h) h.e rows (after_role_rows h role_rows) _ all (rows_next s h role_rows rows lines tail right is))

          in_lines : length lines < h.m → (why : Answer) → read_line bounds s h (length (bytes_with h role_rows rows lines)) ≡ refused why → reading s ≡ refusal why
          in_lines fewer why q =
              in_body why (past_rows ∙ ap (λ (x : Read (List Line)). and_then x (then_end bounds s h role_rows rows)) (many_stopped (read_line bounds s h) h.m lines _ _ why (lines_next s h role_rows rows lines tail right is all) fewer q))

          in_end : length lines ≡ h.m → length (bytes_with h role_rows rows lines) < length s → reading s ≡ refusal (BytesAfter (length (bytes_with h role_rows rows lines)))
          in_end whole_lines w =
              in_body _
              (past_rows ∙ ap (λ (x : Read (List Line)). and_then x (then_end bounds s h role_rows rows)) (many_whole (read_line bounds s h) h.m lines _ _ whole_lines (lines_next s h role_rows rows lines tail right is all))
              ∙ if_refused _ _ _ (lt-ltb (length (bytes_with h role_rows rows lines)) (length s) w))

    in_role_rows : (role_rows : List RoleRow) (tail : List ℕ) → Right h role_rows [] [] → length role_rows < h.q → s ≡ bytes_with h role_rows [] [] ++ tail → (why : Answer) → read_role_row s h (length (bytes_with h role_rows [] [])) ≡ refused why → reading s ≡ refusal why
    unfolding flat_map
    in_role_rows role_rows tail right fewer is why q =
        let e = lines_end s h role_rows [] [] tail right is in
        in_role_row role_rows [] [] tail right is fewer why (ap (read_role_row s h) (omega arith) ∙ q)

    in_rows : (role_rows : List RoleRow) (rows : List Row) (tail : List ℕ) → Right h role_rows rows [] → length role_rows ≡ h.q → length rows < h.e → s ≡ bytes_with h role_rows rows [] ++ tail
        → (why : Answer) → read_row s h (length (bytes_with h role_rows rows [])) ≡ refused why → reading s ≡ refusal why
    unfolding flat_map
    in_rows role_rows rows tail right all fewer is why q =
        let e = lines_end s h role_rows rows [] tail right is in
        in_row role_rows rows [] tail right is all fewer why (ap (read_row s h) (omega arith) ∙ q)

    -- what is refused at `at`, where x stands next
    abbrev Judged : Slot → ℕ → Type 0
    Judged x at =
        (Awaited x → length s ≤ at → reading s ≡ refusal (EndsEarly (length s))) × (at < length s → Refuses h x (byte_at s at) → reading s ≡ refusal (NotAllowed at))

    -- a role, and then what g makes of the next byte, where the reading stops if these are refused
    module _ {B C : Type 0} (g : ℕ → Option B) (make : ℕ → B → C) (at : ℕ) (stopped : (why : Answer) → read_pair (read_role s h) (read_code s g) make at ≡ refused why → reading s ≡ refusal why) where
      first_judged : (x : Slot) → ((b : ℕ) → Refuses h x b → h.r ≤ b) → Judged x at
      first_judged x r = (
        (λ a w. stopped _ (pair_stop (read_role s h) (read_code s g) make at _ (code_short s (role_of h.r) at w))),
        λ l k. stopped _ (pair_stop (read_role s h) (read_code s g) make at _ (code_answer s (role_of h.r) at l none ((role_none h.r (byte_at s at)).1 (r (byte_at s at) k)))),
      )

      second_judged : (y : Slot) (role : ℕ) (tail : List ℕ) → drop at s ≡ role ∷ tail → role < h.r → ((b : ℕ) → Refuses h y b → g b ≡ none) → Judged y (at + 1)
      second_judged y role tail q less r =
          let here = here_byte s at role tail q in
          let known : read_role s h at ≡ got role (at + 1) = code_answer s (role_of h.r) at here.0 (some role) (ap (role_of h.r) here.1 ∙ role_is h.r role (lt→ltb role h.r less)) in
          let next = pair_next (read_role s h) (read_code s g) make at role (at + 1) known in
          let then : Read B → Read C = λ x. and_then x (λ b end. got (make role b) end) in (
            (λ a w. stopped _ (next ∙ ap then (code_short s g (at + 1) w))),
            λ l k. stopped _ (next ∙ ap then (code_answer s g (at + 1) l none (r (byte_at s (at + 1)) k))),
          )

    judged : (x : Slot) (good tail : List ℕ) → Begins h good x → s ≡ good ++ tail → Judged x (length good)
    judged a_narrower good tail (role_rows, right, fewer, is) q =
        subst (λ (l : List ℕ). Judged a_narrower (length l)) (sym is)
        (first_judged (role_of h.r) role_row_of (length (bytes_with h role_rows [] [])) (in_role_rows role_rows tail right fewer (q ∙ ap (λ (l : List ℕ). l ++ tail) is)) a_narrower (λ b w. w))
    judged a_wider good tail (role_rows, narrower, right, fewer, less, is) q =
        let begun = bytes_with h role_rows [] [] in
        let whole_is = q ∙ ap (λ (l : List ℕ). l ++ tail) is ∙ append_assoc begun (narrower ∷ []) tail in
        subst (Judged a_wider) (sym (ap length is ∙ length-append begun (narrower ∷ [])))
        (second_judged (role_of h.r) role_row_of (length begun) (in_role_rows role_rows (narrower ∷ tail) right fewer whole_is) a_wider narrower tail (behind s begun (narrower ∷ tail) whole_is) less (λ b w. (role_none h.r b).1 w))
    judged a_role good tail (role_rows, rows, right, all, fewer, is) q =
        subst (λ (l : List ℕ). Judged a_role (length l)) (sym is)
        (first_judged (filler_of h.c h.v) row_of (length (bytes_with h role_rows rows [])) (in_rows role_rows rows tail right all fewer (q ∙ ap (λ (l : List ℕ). l ++ tail) is)) a_role (λ b w. w))
    judged a_filler good tail (role_rows, rows, role, right, all, fewer, less, is) q =
        let begun = bytes_with h role_rows rows [] in
        let whole_is = q ∙ ap (λ (l : List ℕ). l ++ tail) is ∙ append_assoc begun (role ∷ []) tail in
        subst (Judged a_filler) (sym (ap length is ∙ length-append begun (role ∷ [])))
        (second_judged (filler_of h.c h.v) row_of (length begun) (in_rows role_rows rows (role ∷ tail) right all fewer whole_is) a_filler role tail (behind s begun (role ∷ tail) whole_is) less (λ b w. w))
    judged a_count good tail (role_rows, rows, lines, right, whole_first, all, fewer, is) q =
        let i = in_lines role_rows rows lines tail right (q ∙ ap (λ (l : List ℕ). l ++ tail) is) whole_first all fewer in
        subst (λ (l : List ℕ). Judged a_count (length l)) (sym is) ((λ a w. i _ (line_short bounds s h _ w)), λ l r. absurd r)
    judged an_entry good tail (role_rows, rows, lines, p, xs, right, whole_first, all, fewer, few, some_left, known, is) q =
        let begun = bytes_with h role_rows rows lines in
        let start = length begun in
        let whole_is = q ∙ ap (λ (l : List ℕ). l ++ tail) is ∙ append_assoc begun (p ∷ flat_map written_entry xs) tail in
        let here = here_byte s start p (flat_map written_entry xs ++ tail) (behind s begun (p ∷ (flat_map written_entry xs ++ tail)) whole_is) in
        let constants = right.counts.few_constants in
        let restrictions = right.counts.few_restrictions in
        let there = many_read s (read_entry s h) written_entry (entry_declared (table_with h role_rows rows lines)) (entry_reads s h role_rows rows lines all (omega arith) (omega arith)) xs (start + 1) tail known here.2 in
        let i : (why : Answer) → read_entry s h (start + 1 + length (flat_map written_entry xs)) ≡ refused why → reading s ≡ refusal why = λ why e. in_lines role_rows rows lines (p ∷ (flat_map written_entry xs ++ tail)) right whole_is whole_first all fewer why
        (line_refused start here.0 (subst (λ (k : ℕ). k ≤ max_left) (sym here.1) few) xs _ there (subst (λ (k : ℕ). length xs ≤ k) (sym here.1) some_left) why e) in
        let long : length (begun ++ (p ∷ flat_map written_entry xs)) ≡ length begun + suc (length (flat_map written_entry xs)) = length-append begun (p ∷ flat_map written_entry xs) in
        subst (Judged an_entry) (let e : start + 1 + length (flat_map written_entry xs) ≡ length (begun ++ (p ∷ flat_map written_entry xs)) = omega arith in e ∙ ap length (sym is))
        ((λ a w. i _ (code_short s (entry_of h.c h.e h.v) _ w)), λ l r. i _ (code_answer s (entry_of h.c h.e h.v) _ l none r))
    judged nothing good tail b q = ((λ a w. absurd a), λ l r. absurd r)

  pub means_refusal : (why : Answer) → RefusedAt s why → reading s ≡ refusal why
  unfolding reading
  means_refusal why (header_cut w) = ap (from_header bounds s) (header_short bounds s w)
  means_refusal why (wrong_mark l m) = ap (from_header bounds s) (header_mark bounds s l (is_false (marked s) m))
  means_refusal why (wrong_version l m v) = ap (from_header bounds s) (header_version bounds s l (is_true (marked s) m) (is_false (version_known s) v))
  means_refusal why (over_bound l m v o) =
      ap (from_header bounds s) (header_counts bounds s l (is_true (marked s) m) (is_true (version_known s) v) ∙ ap (λ (x : Read Header). and_then x (then_there s)) (counts_over (header_of s) o))
  means_refusal why (no_role_count l m v w c) =
      ap (from_header bounds s)
      (header_counts bounds s l (is_true (marked s) m) (is_true (version_known s) v) ∙ ap (λ (x : Read Header). and_then x (then_there s)) (counts_within bounds (header_of s) w)
      ∙ if_refused _ _ _ (lt-ltb (length s) (header_end (header_of s)) c))
  means_refusal why (over_left h good p tail (role_rows, rows, lines, right, whole_first, all, fewer, is) q w) =
      let here = here_byte s (length good) p tail (behind s good (p ∷ tail) q) in
      let i = in_lines h role_rows rows lines (p ∷ tail) right (q ∙ ap (λ (l : List ℕ). l ++ (p ∷ tail)) is) whole_first all fewer in
      subst (λ (l : List ℕ). read_line bounds s h (length l) ≡ refused (OverBound (length good)) → reading s ≡ refusal (OverBound (length good))) (sym is) (i _)
      (line_over bounds s h (length good) here.0 (subst (λ (k : ℕ). max_left < k) (sym here.1) w))
  means_refusal why (ends_early h x a b) = (judged h x s [] b (sym (append-nil s))).0 a (omega arith)
  means_refusal why (not_allowed h x good b tail g q r) =
      let here = here_byte s (length good) b tail (behind s good (b ∷ tail) q) in
      (judged h x good (b ∷ tail) g q).1 here.0 (subst (Refuses h x) (sym here.1) r)
  means_refusal why (bytes_after h good b tail (role_rows, rows, lines, right, whole_first, all, whole_lines, is) q) =
      let here = here_byte s (length good) b tail (behind s good (b ∷ tail) q) in
      subst (λ (l : List ℕ). length l < length s → reading s ≡ refusal (BytesAfter (length l))) (sym is)
      (in_end h role_rows rows lines (b ∷ tail) right (q ∙ ap (λ (l : List ℕ). l ++ (b ∷ tail)) is) whole_first all whole_lines) here.0

  -- THE READING IS A REFUSAL EXACTLY IF ITS CONDITION HOLDS
  pub refused_exactly : (why : Answer) → (reading s ≡ refusal why) ↔ RefusedAt s why
  refused_exactly why = (refused_means s why, means_refusal why)
