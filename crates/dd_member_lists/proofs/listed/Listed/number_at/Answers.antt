use Rattle.std.proofs.Common.{◌≡◌, ◌-◌, ◌*◌, ◌/◌, ◌%◌, ◌+◌, get_or, sym, ap, ◌∙◌, arith}
use Rattle.dd_model.specs.Code.{images}
use Rattle.dd_symbol.specs.Images.{with_degrees}
use Rattle.dd_member_lists.proofs.CodePlaces.{among_images, among_tiles, among_vertices}
use Rattle.dd_member_lists.proofs.listed.Listed.number_at.Goals as goal

pub returns-then-place-size : goal.returns-then-place-size
returns-then-place-size c =
    let s = with_degrees c.args.self.now.table.now c.args.self.now.m01.now c.args.self.now.m12.now in
    let size = c.size-size.ensures.size in
    let same = c.symbol-symbol.ensures.same in
    let test = c.if-place-size.true in
    let sizes = ap (λ t. t.size) same in
    let three = ap (λ t. get_or (images t (c.args.place / 3 + 1)) (c.args.place % 3) 0) same in
    ap (λ xs. get_or xs (c.args.place % 3) 0) c.images.ensures ∙ three ∙ sym (among_images s c.args.place c.requires.small.symbol.table.m01_length (omega arith))

pub returns-then-place-size-2 : goal.returns-then-place-size-2
returns-then-place-size-2 c =
    let s = with_degrees c.args.self.now.table.now c.args.self.now.m01.now c.args.self.now.m12.now in
    let size : c.size-size.result ≡ s.size = c.size-size.ensures.size ∙ ap (λ t. t.size) c.symbol-symbol.ensures.same in
    let low = c.if-place-size.false in
    let high = c.if-place-size-2.true in
    let place = ap (λ n. get_or s.m01 (c.args.place - 3 * n) 0) size in
    c.from.ensures ∙ place ∙ sym (among_tiles s c.args.place c.requires.small.symbol.table.m01_length (omega arith) (omega arith))

pub returns : goal.returns
returns c =
    let s = with_degrees c.args.self.now.table.now c.args.self.now.m01.now c.args.self.now.m12.now in
    let size : c.size-size.result ≡ s.size = c.size-size.ensures.size ∙ ap (λ t. t.size) c.symbol-symbol.ensures.same in
    let low = c.if-place-size-2.false in
    let place = ap (λ n. get_or s.m12 (c.args.place - 4 * n) 0) size in
    c.from-2.ensures ∙ place ∙ sym (among_vertices s c.args.place c.requires.small.symbol.table.m01_length (omega arith))
