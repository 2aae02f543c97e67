-- Worked rows of the subclass rule without pairs, which compute.
use Rattle.std.specs.Prelude.{◌≡◌, true, false, refl, codes}
use Rattle.mime_base.specs.Database.Subclass.{is_by_itself}

pub text_is_plain : is_by_itself (codes "text/x-notes") (codes "text/plain") ≡ true
unfolding is_by_itself
text_is_plain = refl

pub application_is_bytes : is_by_itself (codes "application/x") (codes "application/octet-stream") ≡ true
unfolding is_by_itself
application_is_bytes = refl

pub inode_is_no_bytes : is_by_itself (codes "inode/x") (codes "application/octet-stream") ≡ false
unfolding is_by_itself
inode_is_no_bytes = refl

pub application_is_no_text : is_by_itself (codes "application/x") (codes "text/plain") ≡ false
unfolding is_by_itself
application_is_no_text = refl
