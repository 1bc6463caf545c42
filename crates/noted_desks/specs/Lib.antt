pub mod NotedDesks
