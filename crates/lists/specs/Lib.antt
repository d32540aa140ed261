pub mod ListReplies
