use Rattle.std.proofs.Common.{rules, false, ◌∙◌, ap, sym}
use Rattle.lq_sources.specs.Faults.{in_file}
use Rattle.lq_sources.specs.Items.{so_far, with_file}
use Rattle.lq_sources.specs.Walk.{file, held, take_item, take_path}
use Rattle.lq_sources.proofs.Steps.{contents_answer, folder_answer, item_failed, item_taken, not_opened, opened, path_answer}
use Rattle.lq_sources.proofs.walking.+file.Goals as goal

pub read_file-returns-in_err-format-clause-reads : goal.read_file-returns-in_err-format-clause-reads
read_file-returns-in_err-format-clause-reads g t c =
    not_opened (g.G.Gather.means c.args.gather.now) _ c.args.terms.levels c.args.terms.is_root c.args.path.now _ _ c.in_err-format.field-0.0 _ (search rules) c.in_err-format.ensures.format.0

pub read_file-returns-clause-reads : goal.read_file-returns-clause-reads
read_file-returns-clause-reads g t c =
    opened (g.G.Gather.means c.args.gather.now) _ c.args.terms.levels c.args.terms.is_root c.args.path.now _ _ _ c.in_ok-format.format c.in_ok-format.ensures.format c.read_contents.ensures.reads

pub read_contents-returns-clause-reads : goal.read_contents-returns-clause-reads
read_contents-returns-clause-reads g t c =
    contents_answer (g.G.Gather.means c.args.gather.now) _ _ (λ source. file (g.G.Gather.means c.args.gather.now) source c.args.terms.levels false) c.args.terms.is_root c.args.path.now c.args.format (held c.args.reading.now c.args.gathered.now) _ c.in_ok-bytes.bytes c.in_ok-tree.tree c.in_ok-items.items.now _ _
    c.in_ok-bytes.ensures.told (c.count_file.ensures ∙ ap (λ n. with_file n (so_far c.args.reading.now)) c.len.ensures) c.in_ok-bytes.ensures.found (ap (λ b. in_file c.args.path.now ((g.G.Gather.means c.args.gather.now).tree c.args.format b)) (sym c.as_slice.ensures) ∙ c.in_ok-tree.ensures) c.in_ok-items.ensures c.take_items.ensures.reads

pub take_items-returns-in_err-take_item-clause-reads : goal.take_items-returns-in_err-take_item-clause-reads
take_items-returns-in_err-take_item-clause-reads g t c =
    item_failed _ _ _ _ _ (λ source. take_item (g.G.Gather.means c.args.gather.now) source (file (g.G.Gather.means c.args.gather.now) source c.args.terms.levels false) c.args.terms.is_root c.args.path.now) c.args.items.now c.loop-i.i _ _ _ _ c.in_err-take_item.field-0.0 _ (search rules) c.loop-i-test.true c.index-items-i.is c.loop-i.invariant c.in_err-take_item.ensures.reads

pub take_items-loop-i-preserved : goal.take_items-loop-i-preserved
take_items-loop-i-preserved g t c =
    item_taken _ _ _ _ _ (λ source. take_item (g.G.Gather.means c.args.gather.now) source (file (g.G.Gather.means c.args.gather.now) source c.args.terms.levels false) c.args.terms.is_root c.args.path.now) c.args.items.now c.loop-i.i _ _ _ _ _ _ c.loop-i-test.true c.index-items-i.is c.loop-i.invariant c.in_ok-take_item.ensures.told c.in_ok-take_item.ensures.later c.in_ok-take_item.ensures.reads

pub read_path-returns-clause-reads : goal.read_path-returns-clause-reads
read_path-returns-clause-reads g t c =
    path_answer (g.G.Gather.means c.args.gather.now) _ (λ source. file (g.G.Gather.means c.args.gather.now) source c.args.terms.levels false) c.args.path.now (held c.args.reading.now c.args.gathered.now) _ _ c.in_ok-test_name.ensures c.read_file.ensures.reads

pub read_folder-returns-clause-reads : goal.read_folder-returns-clause-reads
read_folder-returns-clause-reads g t c =
    folder_answer (g.G.Gather.means c.args.gather.now) _ _ (λ source. file (g.G.Gather.means c.args.gather.now) source c.args.terms.levels false) c.args.folder.now (held c.args.reading.now c.args.gathered.now) c.in_ok-paths.paths _ _ _
    c.in_ok-paths.ensures.told c.as_slice.ensures c.in_ok-paths.ensures.found c.read_paths.ensures.reads

pub read_paths-returns-in_err-read_path-clause-reads : goal.read_paths-returns-in_err-read_path-clause-reads
read_paths-returns-in_err-read_path-clause-reads g t c =
    item_failed _ _ _ _ _ (λ source i. take_path (file (g.G.Gather.means c.args.gather.now) source c.args.terms.levels false)) c.args.paths.now c.loop-path.path-index _ _ _ _ c.in_err-read_path.field-0.0 _ (search rules) c.loop-path-test.true (c.as_str.ensures ∙ c.path-item.is) c.loop-path.invariant c.in_err-read_path.ensures.reads

pub read_paths-loop-path-preserved : goal.read_paths-loop-path-preserved
read_paths-loop-path-preserved g t c =
    item_taken _ _ _ _ _ (λ source i. take_path (file (g.G.Gather.means c.args.gather.now) source c.args.terms.levels false)) c.args.paths.now c.loop-path.path-index _ _ _ _ _ _ c.loop-path-test.true (c.as_str.ensures ∙ c.path-item.is) c.loop-path.invariant c.in_ok-read_path.ensures.told c.in_ok-read_path.ensures.later c.in_ok-read_path.ensures.reads
